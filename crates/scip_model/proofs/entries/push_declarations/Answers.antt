use Rattle.std.proofs.Common.{◌≡◌, ◌∙◌, ◌++◌, ◌<◌, ◌∷◌, [], List, Some, cond, length, map, take, ap, sym, subst}
use Rattle.std.proofs.Common.{append_assoc}
use Rattle.std.specs.List.{slice_get}
use Rattle.std.proofs.lemmas.List.{map-append}
use Rattle.std.proofs.lemmas.Option.{get_or_from_slice_get}
use Rattle.basics.proofs.ListLemmas.{item_at}
use Rattle.scip_records.specs.declared.records.SymbolInformation.{SymbolInformation}
use Rattle.index_hooks.specs.declared.choice.Choice.{Choice}
use Rattle.proto_decl.specs.declared.declaration.Declaration.{Declaration}
use Rattle.scip_model.specs.Detailed.{detail_at}
use Rattle.scip_model.specs.Entries.{declaration_entry}
use Rattle.scip_model.specs.Tables.EntryLists.{kept_entries, entry_if_kept, choices_for}
use Rattle.scip_model.proofs.EntryLemmas.{kept-more}
use Rattle.scip_model.proofs.EntryNumberLemmas.{kept_one}
use Rattle.scip_model.proofs.entries.push_declarations.Goals as goal

pub loop-index-preserved : goal.loop-index-preserved
loop-index-preserved c = λ home entry numbered.
    let facts = c.args.facts.now in
    let index = c.loop-index.index in
    let choices = choices_for c.args.maker.now.choices.now c.args.maker.now.source in
    let choice = c.of-choice.result in
    let number = c.in_ok-number.number in
    let old = map entry c.args.numbers.now.items in
    let within = subst (λ (ds : List Declaration). index < length ds) c.declarations-index-end.ensures
    c.loop-index-test.true in
    let declared = item_at facts.declarations index within in
    let chosen : slice_get choices index ≡ Some choice =
    ap (λ (l : List Choice). slice_get l index)
    (get_or_from_slice_get c.args.maker.now.choices.now c.args.maker.now.source c.of-choice.ensures.of_file []
    c.of-choice.ensures.file_is) ∙ c.of-choice.ensures.declaration_is in
    let so_far = kept_entries home facts 0 (take index facts.declarations) choices in
    let is : entry number ≡ declaration_entry home facts declared.0 (detail_at facts index) choice =
    ap entry c.in_ok-number.ensures ∙ numbered index declared.0 choice declared.1 chosen in
    ap (map entry) c.in_ok-push_if_kept.ensures
    ∙ (map-append entry c.loop-index.numbers.items (cond choice.keep (number ∷ []) [])
    ∙ (ap (λ (l : List SymbolInformation). map entry c.loop-index.numbers.items ++ l)
    (kept_one entry choice.keep number (declaration_entry home facts declared.0 (detail_at facts index) choice) is)
    ∙ (ap (λ (l : List SymbolInformation). l ++ entry_if_kept home facts index declared.0 choice)
    (c.loop-index.invariant home entry numbered)
    ∙ (append_assoc old so_far (entry_if_kept home facts index declared.0 choice)
    ∙ ap (λ (l : List SymbolInformation). old ++ l)
    (sym (kept-more home facts facts.declarations choices index declared.0 choice declared.1 chosen))))))
