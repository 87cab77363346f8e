use Rattle.proto_visibility.specs.Knows.{admits}
use Rattle.proto_visibility.proofs.LookupListedLemmas.{NoneDeclaresUpTo}
use Rattle.proto_visibility.proofs.lookup.first_declaring.Given as goal

abbrev pub invariant-loop-one : goal.invariant-loop-one
invariant-loop-one l = NoneDeclaresUpTo l.declared l.row (admits l.role) l.one-index
