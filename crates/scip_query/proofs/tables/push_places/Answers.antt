use Rattle.std.proofs.Common.{◌∙◌, ap, sym, ℕ, ◌++◌, ◌∷◌, [], map, append_assoc}
use Rattle.scip_query.specs.Tables.{numbers}
use Rattle.scip_query.specs.declared.place.Place.{Place}
use Rattle.scip_query.proofs.TableLemmas.{map_numbers_more}
use Rattle.scip_query.proofs.tables.push_places.Goals as goal

pub loop-occurrence-preserved : goal.loop-occurrence-preserved
loop-occurrence-preserved c =
    let at = c.loop-occurrence.occurrence in
    let place : ℕ → Place = λ k. record { document = c.args.number; occurrence = k } in
    c.in_ok-push.ensures.items ∙ ap (λ l. l ++ place at ∷ []) c.loop-occurrence.invariant
    ∙ append_assoc c.args.places.now.items (map place (numbers at)) (place at ∷ [])
    ∙ ap (λ l. c.args.places.now.items ++ l) (sym (map_numbers_more place at))
