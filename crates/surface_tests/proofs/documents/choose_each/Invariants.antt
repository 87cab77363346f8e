-- The choices so far.
use Rattle.std.proofs.Common.{◌≡◌, length, take}
use Rattle.surface_tests.proofs.documents.choose_each.Given as goal

abbrev pub invariant-loop : goal.invariant-loop
invariant-loop l = length l.list.items ≡ length (take l.index l.declarations)
