use Rattle.std.proofs.Common.{◌≡◌, ◌%◌, ◌<◌, length, refl, arith}
use Rattle.index_pool.proofs.CoreFieldsLemmas.{queue_has_room, seed_keeps}
use Rattle.index_pool.proofs.core_machine.Core.seed.Goals as goal

pub queue_up-requires : goal.queue_up-requires
queue_up-requires c =
    let count : c.len.result ≡ length c.self.inside.workers.items =
    omega (arith, c.len.ensures, c.self.inside.workers.ok.0) in
    let some = c.self.invariant.some_worker in
    let within : c.args.number % c.len.result < length c.self.inside.workers.items = omega arith in
    queue_has_room _ _ _ _ _ c.self.invariant
    (omega (arith, c.if-number-self.false, c.if-number-self-2.false)) within c.index_mut.ensures.value

pub invariant_of-self : goal.invariant_of-self
invariant_of-self c =
    let count : c.len.result ≡ length c.self.inside.workers.items =
    omega (arith, c.len.ensures, c.self.inside.workers.ok.0) in
    (seed_keeps _ _ _ _ _ _ _ _ c.if-number-self.false count c.self.view_is c.self.invariant c.if-number-self-2.false
    c.index_mut.ensures.value c.queue_up.ensures.state c.queue_up.ensures.rooms).0

pub returns : goal.returns
returns c =
    let count : c.len.result ≡ length c.self.inside.workers.items =
    omega (arith, c.len.ensures, c.self.inside.workers.ok.0) in
    let kept = seed_keeps _ _ _ _ _ _ _ _ c.if-number-self.false count c.self.view_is c.self.invariant
    c.if-number-self-2.false c.index_mut.ensures.value c.queue_up.ensures.state c.queue_up.ensures.rooms in
    (kept.2, refl, kept.1)
