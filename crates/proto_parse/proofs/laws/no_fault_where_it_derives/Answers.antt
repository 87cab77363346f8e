use Rattle.proto_parse.proofs.RefusedLemmas.{no_fault}
use Rattle.proto_parse.proofs.laws.no_fault_where_it_derives.Goals as goal

pub returns : goal.returns
returns c = λ dialect text tokens file fault d e. no_fault file d e
