use Rattle.std.proofs.Common.{refl}
use Rattle.index_pool.proofs.CoreFieldsLemmas.{note_keeps}
use Rattle.index_pool.proofs.core_machine.Core.note_empty.Goals as goal

pub invariant_of-self : goal.invariant_of-self
invariant_of-self c = (note_keeps _ _ _ _ _ _ _ c.self.view_is c.self.invariant (c.if-not-is_ready.ensures.0 refl)
    (c.if-not-is_queue_empty.ensures.0 refl) c.index_mut.ensures.value c.note_empty.ensures.state
    c.note_empty.ensures.rooms).0

pub returns : goal.returns
returns c = (
  (c.if-not-is_ready.ensures.0 refl, c.if-not-is_queue_empty.ensures.0 refl),
  refl,
  (note_keeps _ _ _ _ _ _ _ c.self.view_is c.self.invariant (c.if-not-is_ready.ensures.0 refl)
      (c.if-not-is_queue_empty.ensures.0 refl) c.index_mut.ensures.value c.note_empty.ensures.state
      c.note_empty.ensures.rooms).1,
)
