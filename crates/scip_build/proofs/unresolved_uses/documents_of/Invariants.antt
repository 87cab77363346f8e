use Rattle.std.proofs.Common.{◌≡◌, map}
use Rattle.scip_build.proofs.unresolved_uses.documents_of.Given as goal

abbrev pub invariant-loop-document : goal.invariant-loop-document
invariant-loop-document g l = l.documents.items ≡ map (λ document. document.kept) l.yielded
