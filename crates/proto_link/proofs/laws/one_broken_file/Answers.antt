use Rattle.proto_link.proofs.LawLemmas.{one_broken_file}
use Rattle.proto_link.proofs.laws.one_broken_file.Goals as goal

pub returns : goal.returns
returns c = one_broken_file
