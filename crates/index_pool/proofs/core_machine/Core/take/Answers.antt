use Rattle.std.proofs.Common.{◌<◌, length, slice_index, ap, sym, ◌∙◌, subst}
use Rattle.index_pool.proofs.CoreFieldsLemmas.{same_keeps, takings_have_room, take_keeps, queue_at}
use Rattle.index_pool.proofs.core_machine.Core.take.Goals as goal

pub invariant_of-self : goal.invariant_of-self
invariant_of-self c = (same_keeps _ _ _ _ _ _ _ c.self.view_is c.self.invariant c.requires.0.1 c.index_mut.ensures.value
    c.in_err-number.ensures.none.1 c.pop.ensures.rooms).0

pub returns-in_err-number-clause-none : goal.returns-in_err-number-clause-none
returns-in_err-number-clause-none c =
    let none = c.in_err-number.ensures.none in
    let kept = same_keeps _ _ _ _ _ _ _ c.self.view_is c.self.invariant c.requires.0.1 c.index_mut.ensures.value none.1
    c.pop.ensures.rooms in
    rw c.from_residual.ensures (ap (λ w. w.queue) kept.2 ∙ none.0, kept.1)

pub keep-requires : goal.keep-requires
keep-requires c = let e = c.in_ok-number.ensures.some in
    takings_have_room _ _ _ _ _ _ _ _ _ _ c.self.view_is c.self.invariant c.requires.0.1 c.requires.1.1
    c.index_mut.ensures.value e.0 e.1 e.2 c.pop.ensures.rooms c.index_mut-2.ensures.value

pub invariant_of-self-2 : goal.invariant_of-self-2
invariant_of-self-2 c = let e = c.in_ok-number.ensures.some in
    (take_keeps _ _ _ _ _ _ _ _ _ _ c.self.view_is c.self.invariant c.requires.0.1 c.requires.1.1
    c.index_mut.ensures.value e.0 e.1 e.2 c.pop.ensures.rooms c.index_mut-2.ensures.value _ c.keep.ensures.state
    c.keep.ensures.rooms).0

pub returns-clause-some : goal.returns-clause-some
returns-clause-some c =
    let e = c.in_ok-number.ensures.some in
    let queue = queue_at _ _ _ _ _ _ _ _ _ _ c.self.view_is c.self.invariant c.requires.0.1 c.requires.1.1
    c.index_mut.ensures.value e.0 e.1 e.2 c.pop.ensures.rooms c.index_mut-2.ensures.value in
    let kept = take_keeps _ _ _ _ _ _ _ _ _ _ c.self.view_is c.self.invariant c.requires.0.1 c.requires.1.1
    c.index_mut.ensures.value e.0 e.1 e.2 c.pop.ensures.rooms c.index_mut-2.ensures.value _ c.keep.ensures.state
    c.keep.ensures.rooms in
    (subst (λ q. 0 < length q) (sym queue) e.0, e.1 ∙ ap (λ q. slice_index q 0) (sym queue), kept.1)
