use Rattle.std.proofs.Common.{◌∙◌, sym, subst, Option, List}
use Rattle.std.specs.Prelude.{IfOk}
use Rattle.option_link.specs.declared.facts.OptionFacts.{OptionFacts}
use Rattle.scip_model.specs.Makers.{IsItsDocumentWith}
use Rattle.scip_model.specs.Options.{AllLinkOptions, AreOptionGapsIf, AreUncertainNamesIf}
use Rattle.scip_build.specs.Documents.{asked_in}
use Rattle.scip_build.specs.Works.{AreLent}
use Rattle.scip_build.proofs.source_document.plan.Goals as goal

pub plan_with_options-requires-clause-options : goal.plan_with_options-requires-clause-options
plan_with_options-requires-clause-options c =
    let sources = c.args.sources.now in
    let has = subst (AreLent (asked_in sources.settings.now sources.parsed.now) sources.package.now.files)
    c.in-Some.is c.requires.options in
    let source = c.args.maker.now.source in (
      has.1 ∙ sym c.requires.package,
      subst AllLinkOptions (sym c.requires.package) has.2 source c.requires.source,
    )

pub returns-in-Some-clause-document : goal.returns-in-Some-clause-document
returns-in-Some-clause-document c =
    let sources = c.args.sources.now in
    let has = subst (AreLent (asked_in sources.settings.now sources.parsed.now) sources.package.now.files)
    c.in-Some.is c.requires.options in
    subst (λ (asked : Option (List OptionFacts)). IfOk c.plan_with_options.result (λ made.
    IsItsDocumentWith c.args.maker.now asked made.planned.document)) (sym has.0) c.plan_with_options.ensures.document

pub returns-in_ok-plan_document-in-None-clause-document : goal.returns-in_ok-plan_document-in-None-clause-document
returns-in_ok-plan_document-in-None-clause-document c =
    let sources = c.args.sources.now in
    let none = subst (AreLent (asked_in sources.settings.now sources.parsed.now) sources.package.now.files)
    c.in-None.is c.requires.options in
    subst (λ (asked : Option (List OptionFacts)). IsItsDocumentWith c.args.maker.now asked
    c.in_ok-plan_document-in-None.field-0.document) (sym none) c.in_ok-plan_document-in-None.ensures.document

pub returns-in-Some-clause-option_gaps : goal.returns-in-Some-clause-option_gaps
returns-in-Some-clause-option_gaps c =
    let sources = c.args.sources.now in
    let maker = c.args.maker.now in
    let has = subst (AreLent (asked_in sources.settings.now sources.parsed.now) sources.package.now.files)
    c.in-Some.is c.requires.options in
    subst (λ (asked : Option (List OptionFacts)). IfOk c.plan_with_options.result (λ made.
    AreOptionGapsIf asked maker.package.now.files maker.source maker.text.now made.option_gaps)) (sym has.0)
    c.plan_with_options.ensures.option_gaps

pub returns-in-Some-clause-uncertain_names : goal.returns-in-Some-clause-uncertain_names
returns-in-Some-clause-uncertain_names c =
    let sources = c.args.sources.now in
    let maker = c.args.maker.now in
    let has = subst (AreLent (asked_in sources.settings.now sources.parsed.now) sources.package.now.files)
    c.in-Some.is c.requires.options in
    subst (λ (asked : Option (List OptionFacts)). IfOk c.plan_with_options.result (λ made.
    AreUncertainNamesIf asked maker.package.now.files maker.source maker.text.now made.uncertain_names)) (sym has.0)
    c.plan_with_options.ensures.uncertain_names
