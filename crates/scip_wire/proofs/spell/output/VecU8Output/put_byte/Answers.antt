use Rattle.std.proofs.Common.{arith, refl, true, false}
use Rattle.scip_wire.proofs.OutputLemmas.{filled}
use Rattle.scip_wire.proofs.spell.output.VecU8Output.put_byte.Goals as goal

pub returns-then-len-capacity : goal.returns-then-len-capacity
returns-then-len-capacity g c =
    filled _ _ _ _ _ true 1 refl c.push_reserved.ensures.items c.push_reserved.ensures.len (λ room. refl)
    (omega (arith, c.push_reserved.ensures.capacity))

pub returns-else-len-capacity : goal.returns-else-len-capacity
returns-else-len-capacity g c =
    filled _ _ _ _ _ false 1 refl refl refl
    (λ room. absurd (omega (arith, room, c.len.ensures, c.capacity.ensures, c.if-len-capacity.false))) (omega arith)
