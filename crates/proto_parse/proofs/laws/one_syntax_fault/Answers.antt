use Rattle.proto_parse.proofs.RefusedLemmas.{one_fault}
use Rattle.proto_parse.proofs.laws.one_syntax_fault.Goals as goal

pub returns : goal.returns
returns c = λ dialect text tokens fault other d e. one_fault d e
