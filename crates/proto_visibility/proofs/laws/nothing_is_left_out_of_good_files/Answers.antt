use Rattle.proto_visibility.proofs.KeptLemmas.{nothing_is_left_out}
use Rattle.proto_visibility.proofs.laws.nothing_is_left_out_of_good_files.Goals as goal

pub returns : goal.returns
returns c = nothing_is_left_out
