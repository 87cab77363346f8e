use Rattle.proto_options.proofs.FileLemmas.{one_list}
use Rattle.proto_options.proofs.laws.one_list_of_options.Goals as goal

pub returns : goal.returns
returns c = one_list
