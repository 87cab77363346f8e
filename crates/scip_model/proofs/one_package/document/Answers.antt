use Rattle.std.proofs.Common.{◌∙◌, List, IfOk, IfErr, ap, sym, subst}
use Rattle.std.proofs.lemmas.Result.{IfOk-weaker}
use Rattle.proto_visibility.specs.Files.{File, IsSource}
use Rattle.scip_model.specs.Chosen.{HaveChoices}
use Rattle.scip_model.specs.Conditions.{HaveGoodPaths, HasText, UsesResolve, MayRefuseDocument}
use Rattle.scip_model.specs.Indexes.{IsDocumentOf}
use Rattle.scip_model.specs.Packages.{Packages, all_in, naming}
use Rattle.scip_model.specs.Repeated.{AreRepeated}
use Rattle.scip_model.proofs.RepeatedLemmas.{none-repeated}
use Rattle.scip_model.proofs.one_package.document.Goals as goal

pub make_document-requires-clause-source : goal.make_document-requires-clause-source
make_document-requires-clause-source c =
    subst (λ (files : List File). IsSource files c.args.file) (sym c.in_ok-named.ensures.files) c.requires.source

pub make_document-requires-clause-text : goal.make_document-requires-clause-text
make_document-requires-clause-text c =
    subst (λ (files : List File). HasText files c.args.file c.args.text.now) (sym c.in_ok-named.ensures.files)
    c.requires.text

pub make_document-requires-clause-paths : goal.make_document-requires-clause-paths
make_document-requires-clause-paths c = subst HaveGoodPaths (sym c.in_ok-named.ensures.files) c.requires.paths

pub make_document-requires-clause-choices : goal.make_document-requires-clause-choices
make_document-requires-clause-choices c =
    subst (λ (files : List File). HaveChoices files c.args.choices.now) (sym c.in_ok-named.ensures.files)
    c.requires.choices

pub returns-clause-document : goal.returns-clause-document
returns-clause-document c =
    let named = c.in_ok-named.named in
    let repeated = named.ids.repeated in
    let ids = c.in_ok-named.ensures.ids
    ∙ ap (λ (packages : Packages). naming packages repeated) c.in_ok-packages.ensures in
    IfOk-weaker c.make_document.result _ _
    (λ made is. (
      repeated,
      subst (λ (files : List File). AreRepeated files repeated) c.in_ok-named.ensures.files
          c.in_ok-named.ensures.repeated,
      subst (λ (files : List File). IsDocumentOf files c.args.choices.now (naming (all_in c.args.id.now) repeated)
          c.args.encoding c.args.file c.args.text.now made) c.in_ok-named.ensures.files
          (subst (λ (its : Packages). IsDocumentOf named.files c.args.choices.now its c.args.encoding c.args.file
          c.args.text.now made) ids is),
    ))
    c.make_document.ensures.document

pub returns-clause-usual : goal.returns-clause-usual
returns-clause-usual c = λ clear.
    let named = c.in_ok-named.named in
    let ids = c.in_ok-named.ensures.ids
    ∙ ap (λ (packages : Packages). naming packages named.ids.repeated) c.in_ok-packages.ensures in
    let are = subst (λ (files : List File). AreRepeated files named.ids.repeated) c.in_ok-named.ensures.files
    c.in_ok-named.ensures.repeated in
    let none = are.none (none-repeated c.args.linker.now clear) in
    let usual = ids ∙ ap (naming (all_in c.args.id.now)) none in
    IfOk-weaker c.make_document.result _ _
    (λ made is.
    subst (λ (files : List File). IsDocumentOf files c.args.choices.now (all_in c.args.id.now) c.args.encoding
    c.args.file c.args.text.now made) c.in_ok-named.ensures.files
    (subst (λ (its : Packages). IsDocumentOf named.files c.args.choices.now its c.args.encoding c.args.file
    c.args.text.now made) usual is))
    c.make_document.ensures.document

pub returns-clause-resolved : goal.returns-clause-resolved
returns-clause-resolved c =
    subst (λ (files : List File). IfOk c.make_document.result (λ _. UsesResolve files c.args.file))
    c.in_ok-named.ensures.files c.make_document.ensures.resolved

pub returns-clause-refused : goal.returns-clause-refused
returns-clause-refused c =
    subst (λ (files : List File). IfErr c.make_document.result (MayRefuseDocument files c.args.file))
    c.in_ok-named.ensures.files c.make_document.ensures.refused
