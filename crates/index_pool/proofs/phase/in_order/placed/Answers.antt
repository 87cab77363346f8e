use Rattle.std.proofs.Common.{◌≡◌, ◌<◌, [], ◌∷◌, ◌++◌, Some, length, sym, ap, ◌∙◌, subst, append_assoc, arith}
use Rattle.std.proofs.Math.ListN.{length-set}
use Rattle.std.specs.Vec.Iter.{into_iter_items}
use Rattle.index_pool.proofs.PhaseStepResultLemmas.{number_below}
use Rattle.index_pool.proofs.InOrderLemmas.{Placed, placed_more, placed_fills, none_left}
use Rattle.index_pool.proofs.phase.in_order.placed.Goals as goal

pub put-requires : goal.put-requires
put-requires g c =
    let rest = into_iter_items c.next.new.self in
    let front = c.loop-ran.invariant.all ∙ ap (λ l. c.loop-ran.yielded ++ l) c.in-Some.ensures.steps.0 in
    let below : c.in-Some.ran.number < c.args.inputs =
    number_below c.args.inputs c.args.results.items c.loop-ran.yielded rest c.in-Some.ran front c.requires in
    let count = c.loop-ran.invariant.count in omega arith

pub loop-ran-preserved : goal.loop-ran-preserved
loop-ran-preserved g c =
    let rest = into_iter_items c.next.new.self in
    let ys = c.loop-ran.yielded in
    let ran = c.in-Some.ran in
    let front = c.loop-ran.invariant.all ∙ ap (λ l. ys ++ l) c.in-Some.ensures.steps.0 in record {
      all = front ∙ sym (append_assoc ys (ran ∷ []) rest);
      count = ap length c.put.ensures
          ∙ (length-set c.loop-ran.slots.items ran.number (Some ran.answer) ∙ c.loop-ran.invariant.count);
      placed = subst (Placed (ys ++ ran ∷ [])) (sym c.put.ensures)
          (placed_more ys c.loop-ran.slots.items ran.number ran.answer c.loop-ran.invariant.placed);
    }

pub returns : goal.returns
returns g c =
    let none : length (into_iter_items c.loop-ran.ran-iterator) ≡ 0 =
    omega (arith, c.in-None.ensures.steps.0, c.loop-ran.ran-iterator.rest.ok.0) in
    let all = none_left c.args.results.items c.loop-ran.yielded
    (into_iter_items c.loop-ran.ran-iterator) c.loop-ran.invariant.all none in
    placed_fills c.args.inputs c.args.results.items c.loop-ran.slots.items
    (subst (λ ys. Placed ys c.loop-ran.slots.items) (sym all) c.loop-ran.invariant.placed)
    c.loop-ran.invariant.count c.requires
