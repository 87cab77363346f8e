use Rattle.std.proofs.Common.{◌∙◌, ap, sym, ℕ, ◌++◌, ◌∷◌, [], arith}
use Rattle.std.proofs.lemmas.List.FromFn.{map-range_with_len_more}
use Rattle.scip_query.specs.declared.place.Place.{Place}
use Rattle.scip_pages.proofs.links.places_of.Goals as goal

pub loop-occurrence-preserved : goal.loop-occurrence-preserved
loop-occurrence-preserved c =
    let at : ℕ = c.loop-occurrence.occurrence in
    let place : ℕ → Place = λ k. record { document = c.args.number; occurrence = k } in
    c.in_ok-push.ensures.items ∙ ap (λ l. l ++ place at ∷ []) c.loop-occurrence.invariant
    ∙ sym (map-range_with_len_more place 0 at at (omega arith))
