use Rattle.proto_visibility.specs.Knows.{admits}
use Rattle.proto_visibility.proofs.LookupListedLemmas.{NoneElsewhereUpTo}
use Rattle.proto_visibility.proofs.lookup.is_declared_elsewhere.Given as goal

abbrev pub invariant-loop-other : goal.invariant-loop-other
invariant-loop-other l = NoneElsewhereUpTo l.declared l.row (admits l.role) l.file l.other-index
