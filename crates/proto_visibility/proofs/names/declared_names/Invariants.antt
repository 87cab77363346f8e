use Rattle.std.proofs.Common.{[]}
use Rattle.proto_visibility.specs.Tables.GivenNames.{owned_at, IsDeclaredBy}
use Rattle.proto_visibility.proofs.NameLemmas.{HasUpTo}
use Rattle.proto_visibility.proofs.names.declared_names.Given as goal

abbrev pub invariant-loop-number : goal.invariant-loop-number
invariant-loop-number l = HasUpTo (λ name. []) (owned_at l.names) (IsDeclaredBy l.files) l.number
