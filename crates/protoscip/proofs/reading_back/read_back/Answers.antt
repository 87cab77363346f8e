use Rattle.std.proofs.Common.{refl}
use Rattle.std.proofs.Math.Nat.{lt_of_not-le}
use Rattle.protoscip.specs.Writing.IsNotReadBack.{has_no_bytes}
use Rattle.protoscip.proofs.IndexingLemmas.{spelled}
use Rattle.protoscip.proofs.reading_back.read_back.Goals as goal

pub returns-in-Ok : goal.returns-in-Ok
returns-in-Ok c = (
  spelled c.spelling_decodes_to_its_index.ensures c.bytes_decode_to_one_index.ensures c.args.index
      c.in-Ok.ensures.known c.in-Ok.ensures.len.0,
  refl,
)

pub returns-in-Err : goal.returns-in-Err
returns-in-Err c = has_no_bytes (lt_of_not-le c.in-Err.ensures.len)
