use Rattle.proto_visibility.proofs.LookupListedLemmas.{NoneOfFileUpTo}
use Rattle.proto_visibility.proofs.lookup.index_in.Given as goal

abbrev pub invariant-loop-listed : goal.invariant-loop-listed
invariant-loop-listed l = NoneOfFileUpTo l.declared l.file l.listed-index
