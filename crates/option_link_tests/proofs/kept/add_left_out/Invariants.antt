-- The files so far, and those that are left out of the files that are left.
use Rattle.std.proofs.Common.{◌≡◌, ◌++◌, length, map}
use Rattle.proto_visibility.specs.Kept.{as_left_out, left_of}
use Rattle.option_link_tests.proofs.kept.add_left_out.Given as goal

abbrev pub invariant-loop-rest : goal.invariant-loop-rest
invariant-loop-rest l =
    l.linked.items ++ map as_left_out (left_of l.rest l.left)
    ≡ l.fn.linked.items ++ map as_left_out (left_of l.fn.omissions l.fn.files)

abbrev pub decreases-loop-rest : goal.decreases-loop-rest
decreases-loop-rest l = length l.rest
