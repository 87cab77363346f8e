use Rattle.std.proofs.Common.{◌≡◌, ◌<◌, List, Some, length, refl, sym, subst}
use Rattle.std.specs.List.{slice_get}
use Rattle.std.proofs.lemmas.Option.{slice_get_read}
use Rattle.std.proofs.lemmas.Result.{IfOk-weaker}
use Rattle.proto_decl.specs.declared.declaration.Declaration.{Declaration}
use Rattle.scip_records.specs.declared.records.SymbolInformation.{SymbolInformation}
use Rattle.scip_model.specs.Detailed.{detail_at}
use Rattle.scip_model.specs.Entries.{declaration_entry}
use Rattle.scip_model.specs.Tables.ExternalLists.{IsEntryAt}
use Rattle.scip_model.proofs.external_symbols.external_entry.Goals as goal

pub returns : goal.returns
returns c =
    let facts = c.args.facts.now in
    let items = c.declarations-declarations.result.now in
    let declaration = c.index-declarations-index.result in
    let within = subst (λ (ds : List Declaration). c.args.index < length ds)
    (sym c.declarations-declarations.ensures) c.requires.within in
    let stands : slice_get facts.declarations c.args.index ≡ Some declaration =
    subst (λ (ds : List Declaration). slice_get ds c.args.index ≡ Some declaration) c.declarations-declarations.ensures
    (slice_get_read items (length items) c.args.index declaration refl within c.index-declarations-index.is) in
    IfOk-weaker c.declaration_entry.result
    (λ (entry : SymbolInformation). entry
    ≡ declaration_entry c.args.home.now facts declaration (detail_at facts c.args.index) c.of-choice.result)
    (IsEntryAt c.args.choices.now c.args.home.now facts c.args.file c.args.index)
    (λ entry is. record {
      declaration = declaration;
      choice = c.of-choice.result;
      stands = stands;
      is_chosen = c.of-choice.ensures;
      is = is;
    }) c.declaration_entry.ensures
