use Rattle.std.proofs.Common.{◌∷◌}
use Rattle.proto_visibility.proofs.RowRunLemmas.{AreTaken}
use Rattle.proto_visibility.proofs.rows.joined_from.Given as goal

abbrev pub invariant-loop-next : goal.invariant-loop-next
invariant-loop-next l = AreTaken l.joined.items l.run (l.fn.first ∷ l.others) l.next-index
