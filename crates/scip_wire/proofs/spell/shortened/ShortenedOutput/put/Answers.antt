use Rattle.std.proofs.Common.{refl, is_ok}
use Rattle.scip_wire.proofs.ShortenedLemmas.{put_shortened, grown_behind}
use Rattle.scip_wire.proofs.spell.shortened.ShortenedOutput.put.Goals as goal

pub returns : goal.returns
returns g c =
    let appended = c.extend_from_slice.ensures in
    put_shortened _ _ _ _ _
    (λ m room. grown_behind _ _ _ _ _ (is_ok c.extend_from_slice.result) c.leave_out-behind.ensures refl refl refl
    appended.items appended.len appended.succeeds appended.capacity m room)
