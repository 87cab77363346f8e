use Rattle.std.proofs.Common.{arith, refl}
use Rattle.scip_wire.proofs.ShortenedLemmas.{put_shortened, grown}
use Rattle.scip_wire.proofs.spell.shortened.ShortenedOutput.put_byte.Goals as goal

pub returns-then-len-capacity : goal.returns-then-len-capacity
returns-then-len-capacity g c =
    let pushed = c.push_reserved.ensures in
    put_shortened _ _ _ _ _
    (λ m room. grown _ _ _ refl refl refl pushed.items (omega (arith, pushed.len)) (omega (arith, pushed.capacity)) m)

pub returns-else-len-capacity : goal.returns-else-len-capacity
returns-else-len-capacity g c =
    put_shortened _ _ _ _ _
    (λ m room. absurd (omega (arith, room, c.len.ensures, c.capacity.ensures, c.if-len-capacity.false)))
