use Rattle.proto_parse.proofs.RefusedFileLemmas.{tree_or_fault}
use Rattle.proto_parse.proofs.laws.derives_or_has_a_fault.Goals as goal

pub returns : goal.returns
returns c = λ dialect text tokens. tree_or_fault dialect text tokens
