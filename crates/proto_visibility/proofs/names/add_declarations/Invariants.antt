use Rattle.proto_visibility.specs.Tables.GivenNames.{owned_at, IsDeclaredOf}
use Rattle.proto_visibility.proofs.NameLemmas.{HasUpTo}
use Rattle.proto_visibility.proofs.names.add_declarations.Given as goal

abbrev pub invariant-loop-index : goal.invariant-loop-index
invariant-loop-index l =
    HasUpTo (owned_at l.fn.names) (owned_at l.names) (IsDeclaredOf l.number l.declarations) l.index
