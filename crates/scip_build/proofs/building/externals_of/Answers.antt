use Rattle.std.proofs.Common.{◌∙◌, ap, sym, subst, length, map, List, ℕ, Option, Some}
use Rattle.std.specs.Prelude.{IfOk}
use Rattle.std.proofs.lemmas.List.{length-map}
use Rattle.option_link.specs.declared.facts.OptionFacts.{OptionFacts}
use Rattle.scip_model.specs.Indexes.{AreExternalsWith}
use Rattle.scip_build.specs.Documents.{asked_in, texts_of}
use Rattle.scip_build.specs.Works.{AreLent}
use Rattle.scip_build.proofs.building.externals_of.Goals as goal

pub externals_with_options-requires-clause-options : goal.externals_with_options-requires-clause-options
externals_with_options-requires-clause-options c =
    let sources = c.args.sources.now in
    (subst (AreLent (asked_in sources.settings.now sources.parsed.now) sources.package.now.files) c.in-Some.is
    c.requires.options).1

pub externals_with_options-requires-clause-linked : goal.externals_with_options-requires-clause-linked
externals_with_options-requires-clause-linked c =
    let sources = c.args.sources.now in
    (subst (AreLent (asked_in sources.settings.now sources.parsed.now) sources.package.now.files) c.in-Some.is
    c.requires.options).2

pub externals_with_options-requires-clause-texts : goal.externals_with_options-requires-clause-texts
externals_with_options-requires-clause-texts c =
    rw c.as_slice.ensures.value
    (sym (length-map c.in_ok-texts-in-Some.texts.items _)
    ∙ (ap length c.in_ok-texts-in-Some.ensures ∙ c.requires.ready.one_text_each))

pub returns-in_ok-texts-in-Some : goal.returns-in_ok-texts-in-Some
returns-in_ok-texts-in-Some c =
    let sources = c.args.sources.now in
    let has = subst (AreLent (asked_in sources.settings.now sources.parsed.now) sources.package.now.files) c.in-Some.is
    c.requires.options in
    let Are : Option (List OptionFacts) → List (List ℕ) → Type 0 = λ asked texts.
    IfOk c.externals_with_options.result (AreExternalsWith asked sources.package.now.files texts sources.choices.now
    sources.package.now.ids) in
    let by_texts = subst (Are (Some c.in-Some.options.now.known))
    (ap (map _) c.as_slice.ensures.value ∙ c.in_ok-texts-in-Some.ensures) c.externals_with_options.ensures in
    subst (λ asked. Are asked (texts_of sources.parsed.now)) (sym has.0) by_texts

pub returns-in-None : goal.returns-in-None
returns-in-None c =
    let sources = c.args.sources.now in
    let none = subst (AreLent (asked_in sources.settings.now sources.parsed.now) sources.package.now.files) c.in-None.is
    c.requires.options in
    let Are : Option (List OptionFacts) → Type 0 = λ asked.
    IfOk c.externals_in_packages.result (AreExternalsWith asked sources.package.now.files
    (texts_of sources.parsed.now) sources.choices.now sources.package.now.ids) in
    subst Are (sym none) c.externals_in_packages.ensures
