use Rattle.proto_visibility.proofs.FileOriginLemmas.{HaveOriginsUpTo}
use Rattle.proto_visibility.proofs.files.have_origins.Given as goal

abbrev pub invariant-loop-file : goal.invariant-loop-file
invariant-loop-file l = HaveOriginsUpTo l.files l.file-index
