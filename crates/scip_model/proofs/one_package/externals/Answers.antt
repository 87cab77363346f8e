use Rattle.std.proofs.Common.{◌∙◌, List, ap, sym, subst}
use Rattle.proto_visibility.specs.Files.{File}
use Rattle.scip_records.specs.declared.records.SymbolInformation.{SymbolInformation}
use Rattle.scip_model.specs.Chosen.{HaveChoices}
use Rattle.scip_model.specs.Indexes.{AreExternals}
use Rattle.scip_model.specs.Packages.{Packages, all_in, naming}
use Rattle.scip_model.specs.Repeated.{AreRepeated}
use Rattle.scip_model.proofs.RepeatedLemmas.{none-repeated}
use Rattle.scip_model.proofs.one_package.externals.Goals as goal

pub externals_in_packages-requires : goal.externals_in_packages-requires
externals_in_packages-requires c =
    record {
      choices = subst (λ (files : List File). HaveChoices files c.args.choices.now) (sym c.in_ok-named.ensures.files)
          c.requires.choices;
    }

pub returns-clause-externals : goal.returns-clause-externals
returns-clause-externals c =
    let named = c.in_ok-named.named in
    let repeated = named.ids.repeated in
    let ids = c.in_ok-named.ensures.ids
    ∙ ap (λ (packages : Packages). naming packages repeated) c.in_ok-packages.ensures in
    let made = subst (λ (list : List SymbolInformation). AreExternals named.files c.args.choices.now named.ids list)
    (sym c.into_vec.ensures) c.in_ok-list.ensures in (
      repeated,
      subst (λ (files : List File). AreRepeated files repeated) c.in_ok-named.ensures.files
          c.in_ok-named.ensures.repeated,
      subst (λ (files : List File). AreExternals files c.args.choices.now (naming (all_in c.args.id.now) repeated)
          c.into_vec.result.items) c.in_ok-named.ensures.files
          (subst (λ (its : Packages). AreExternals named.files c.args.choices.now its c.into_vec.result.items) ids made),
    )

pub returns-clause-usual : goal.returns-clause-usual
returns-clause-usual c = λ clear.
    let named = c.in_ok-named.named in
    let ids = c.in_ok-named.ensures.ids
    ∙ ap (λ (packages : Packages). naming packages named.ids.repeated) c.in_ok-packages.ensures in
    let are = subst (λ (files : List File). AreRepeated files named.ids.repeated) c.in_ok-named.ensures.files
    c.in_ok-named.ensures.repeated in
    let none = are.none (none-repeated c.args.linker.now clear) in
    let usual = ids ∙ ap (naming (all_in c.args.id.now)) none in
    let made = subst (λ (list : List SymbolInformation). AreExternals named.files c.args.choices.now named.ids list)
    (sym c.into_vec.ensures) c.in_ok-list.ensures in
    subst (λ (files : List File). AreExternals files c.args.choices.now (all_in c.args.id.now) c.into_vec.result.items)
    c.in_ok-named.ensures.files
    (subst (λ (its : Packages). AreExternals named.files c.args.choices.now its c.into_vec.result.items) usual made)
