use Rattle.std.proofs.Common.{◌∙◌, ap, sym, ℕ, ◌++◌, ◌∷◌, [], map, append_assoc}
use Rattle.scip_query.specs.Tables.{numbers}
use Rattle.scip_query.specs.declared.place.EntryPlace.{EntryPlace}
use Rattle.scip_query.proofs.TableLemmas.{map_numbers_more}
use Rattle.scip_query.proofs.tables.push_entry_places.Goals as goal

pub loop-entry-preserved : goal.loop-entry-preserved
loop-entry-preserved c =
    let at = c.loop-entry.entry in
    let place : ℕ → EntryPlace = λ k. record { list = c.args.list; entry = k } in
    c.in_ok-push.ensures.items ∙ ap (λ l. l ++ place at ∷ []) c.loop-entry.invariant
    ∙ append_assoc c.args.places.now.items (map place (numbers at)) (place at ∷ [])
    ∙ ap (λ l. c.args.places.now.items ++ l) (sym (map_numbers_more place at))
