use Rattle.std.proofs.Common.{rules, ◌∙◌}
use Rattle.std.specs.Ordering.{nat_cmp}
use Rattle.std.specs.Cmp.Lexicographic.{slice_cmp}
use Rattle.std.proofs.lemmas.Cmp.{nat_list_cmp_total}
use Rattle.std.proofs.lemmas.Fn.{always_returns_same}
use Rattle.scip_query.specs.Tables.{symbol_listed, places_from}
use Rattle.scip_query.specs.declared.place.Place.{Place}
use Rattle.scip_query.proofs.RunLemmas.{sorted_rises, kept_order}
use Rattle.scip_query.proofs.search.places_near.Goals as goal

pub returns : goal.returns
returns c =
    let key = symbol_listed c.args.documents.now in
    let asked = c.args.symbol.now in
    let table = c.args.by_symbol.now in
    c.run_near.ensures (λ (place : Place). slice_cmp nat_cmp (key place) asked)
    (always_returns_same _ _ _ (λ a r f' k. search rules))
    (sorted_rises nat_list_cmp_total key table c.requires.sorted asked)
    ∙ kept_order nat_list_cmp_total key
    (places_from 0 c.args.documents.now) table c.requires.permutation c.requires.stable asked
