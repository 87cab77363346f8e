use Rattle.std.proofs.Common.{rules, ◌∙◌}
use Rattle.std.specs.Ordering.{nat_cmp}
use Rattle.std.specs.Cmp.Lexicographic.{slice_cmp}
use Rattle.std.proofs.lemmas.Cmp.{nat_list_cmp_total}
use Rattle.std.proofs.lemmas.Fn.{always_returns_same}
use Rattle.scip_query.specs.Tables.Searches.{entry_symbol_listed, entry_places_from}
use Rattle.scip_query.specs.declared.place.EntryPlace.{EntryPlace}
use Rattle.scip_query.proofs.RunLemmas.{sorted_rises, kept_order}
use Rattle.scip_query.proofs.search.entry_places_near.Goals as goal

pub returns : goal.returns
returns c =
    let index = c.args.index.now in
    let key = entry_symbol_listed index in
    let asked = c.args.symbol.now in
    let table = c.args.entries_by_symbol.now in
    c.run_near.ensures (λ (place : EntryPlace). slice_cmp nat_cmp (key place) asked)
    (always_returns_same _ _ _ (λ a r f' k. search rules))
    (sorted_rises nat_list_cmp_total key table c.requires.sorted asked)
    ∙ kept_order nat_list_cmp_total key
    (entry_places_from 0 index.external_symbols index.documents) table c.requires.permutation c.requires.stable asked
