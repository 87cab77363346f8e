use Rattle.std.proofs.Common.{◌≡◌, length}
use Rattle.proto_options.specs.Reading.Statements.{name_before_at}
use Rattle.proto_options.proofs.statements.name_before.Given as goal

abbrev pub invariant-tokens : goal.invariant-tokens
invariant-tokens l =
    name_before_at l.kind l.other l.cursor ≡ name_before_at l.kind l.other l.initial.cursor

abbrev pub decreases-tokens : goal.decreases-tokens
decreases-tokens l = length l.cursor.left
