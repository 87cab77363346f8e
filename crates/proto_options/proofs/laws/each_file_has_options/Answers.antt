use Rattle.proto_options.proofs.FileLemmas.{some_list}
use Rattle.proto_options.proofs.laws.each_file_has_options.Goals as goal

pub returns : goal.returns
returns c = some_list
