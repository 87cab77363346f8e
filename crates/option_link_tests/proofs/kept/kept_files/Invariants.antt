-- The files so far, and those of the files that are left.
use Rattle.std.proofs.Common.{◌≡◌, ◌++◌, length}
use Rattle.proto_visibility.specs.Kept.{kept_of}
use Rattle.option_link_tests.proofs.kept.kept_files.Given as goal

abbrev pub invariant-loop-rest : goal.invariant-loop-rest
invariant-loop-rest l = l.kept.items ++ kept_of l.rest l.left ≡ kept_of l.fn.omissions l.fn.files

abbrev pub decreases-loop-rest : goal.decreases-loop-rest
decreases-loop-rest l = length l.rest
