use Rattle.std.proofs.Common.{◌≡◌, ◌∷◌, Some, Ok, Err, length, sym, ap, ◌∙◌, subst, arith}
use Rattle.std.specs.Vec.Iter.{into_iter_items}
use Rattle.index_pool.specs.Phase.{IsLeastFault}
use Rattle.index_pool.specs.Tables.PhaseSteps.{HasResult}
use Rattle.index_pool.proofs.InOrderLemmas.{Answered, next_answer, next_fault, next_none, all_answered}
use Rattle.index_pool.proofs.phase.in_order.first_fault_or_all.Goals as goal

pub loop-slot-preserved : goal.loop-slot-preserved
loop-slot-preserved g c =
    let slots = c.args.slots.items in
    let rest = into_iter_items c.next.new.self in
    let is : c.in-Some.slot ≡ Some (Ok c.in-Some-Ok.out) = cc in
    let more = next_answer slots
    (into_iter_items c.loop-slot.slot-iterator) c.loop-slot.outs.items c.loop-slot.invariant.answered
    c.in-Some-Ok.out rest (c.in-Some.ensures.steps.0 ∙ ap (λ s. s ∷ rest) is) in record {
      room = (let a = c.loop-slot.invariant.room in let b = c.push_reserved.ensures.capacity in omega arith);
      answered = subst (Answered slots rest) (sym c.push_reserved.ensures.items) more.1;
    }

pub returns-in-Some-Err-clause-refused : goal.returns-in-Some-Err-clause-refused
returns-in-Some-Err-clause-refused g c =
    let slots = c.args.slots.items in
    let rest = into_iter_items c.next.new.self in
    let is : c.in-Some.slot ≡ Some (Err c.in-Some-Err.fault) = cc in
    let count : c.len.result ≡ length c.loop-slot.outs.items = omega (arith, c.len.ensures, c.loop-slot.outs.ok.0) in
    subst (λ n. IsLeastFault (HasResult slots) (length slots) n c.in-Some-Err.fault) (sym count)
    (next_fault slots (into_iter_items c.loop-slot.slot-iterator) c.loop-slot.outs.items c.loop-slot.invariant.answered
    c.in-Some-Err.fault rest (c.in-Some.ensures.steps.0 ∙ ap (λ s. s ∷ rest) is))

pub unreachable-requires : goal.unreachable-requires
unreachable-requires g c =
    let rest = into_iter_items c.next.new.self in
    next_none c.args.slots.items
    (into_iter_items c.loop-slot.slot-iterator) c.loop-slot.outs.items c.loop-slot.invariant.answered rest
    (c.in-Some.ensures.steps.0 ∙ ap (λ s. s ∷ rest) c.in-None-slot.is) c.requires.filled

pub returns-clause-answers : goal.returns-clause-answers
returns-clause-answers g c =
    let none : length (into_iter_items c.loop-slot.slot-iterator) ≡ 0 =
    omega (arith, c.in-None.ensures.steps.0, c.loop-slot.slot-iterator.rest.ok.0) in
    all_answered c.args.slots.items
    (into_iter_items c.loop-slot.slot-iterator) c.loop-slot.outs.items c.loop-slot.invariant.answered none
