use Rattle.std.proofs.Common.{take}
use Rattle.proto_visibility.specs.Tables.Passes.{AreUnreadOmitted}
use Rattle.proto_visibility.proofs.omissions.omit_unread.Given as goal

abbrev pub invariant-loop-number : goal.invariant-loop-number
invariant-loop-number l =
    AreUnreadOmitted l.files (take l.number-index l.row) l.fn.omissions.items l.omissions.items
