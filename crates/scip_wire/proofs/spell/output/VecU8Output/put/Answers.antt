use Rattle.std.proofs.Common.{refl, is_ok, length}
use Rattle.scip_wire.proofs.OutputLemmas.{filled}
use Rattle.scip_wire.proofs.spell.output.VecU8Output.put.Goals as goal

pub returns : goal.returns
returns g c =
    let appended = c.extend_from_slice.ensures in
    filled _ _ _ _ _ (is_ok c.extend_from_slice.result) (length c.args.bytes.now) refl appended.items appended.len
    appended.succeeds appended.capacity
