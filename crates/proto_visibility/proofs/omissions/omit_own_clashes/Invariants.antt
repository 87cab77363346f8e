use Rattle.std.proofs.Common.{take}
use Rattle.proto_visibility.specs.Tables.Passes.{AreOwnClashesOmitted}
use Rattle.proto_visibility.proofs.omissions.omit_own_clashes.Given as goal

abbrev pub invariant-loop-number : goal.invariant-loop-number
invariant-loop-number l =
    AreOwnClashesOmitted l.files (take l.number-index l.row) l.fn.omissions.items l.omissions.items
