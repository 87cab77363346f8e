use Rattle.std.proofs.Common.{arith}
use Rattle.std.proofs.lemmas.List.Sums.{count_by-le-length}
use Rattle.protoscip.specs.ToldLines.{is_left_beside}
use Rattle.protoscip.proofs.telling.count_left_out.Goals as goal

pub overflow_add-result : goal.overflow_add-result
overflow_add-result c =
    omega (arith, c.count_beside.ensures, count_by-le-length (is_left_beside c.args.unread.now) c.args.told.now)
