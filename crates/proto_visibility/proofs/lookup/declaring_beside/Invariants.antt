use Rattle.proto_visibility.specs.Knows.{admits}
use Rattle.proto_visibility.proofs.LookupTwiceLemmas.{NoneBesideUpTo}
use Rattle.proto_visibility.proofs.lookup.declaring_beside.Given as goal

abbrev pub invariant-loop-given : goal.invariant-loop-given
invariant-loop-given l = NoneBesideUpTo l.files l.declared l.row (admits l.role) l.beside l.given-index
