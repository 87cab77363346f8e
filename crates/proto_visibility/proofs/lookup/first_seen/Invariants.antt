use Rattle.proto_visibility.proofs.LookupListedLemmas.{NoneSharedUpTo}
use Rattle.proto_visibility.proofs.lookup.first_seen.Given as goal

abbrev pub invariant-loop-number : goal.invariant-loop-number
invariant-loop-number l = NoneSharedUpTo l.numbers l.row l.number-index
