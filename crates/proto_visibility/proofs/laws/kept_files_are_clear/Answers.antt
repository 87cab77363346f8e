use Rattle.proto_visibility.proofs.KeptLemmas.{kept_are_clear}
use Rattle.proto_visibility.proofs.laws.kept_files_are_clear.Goals as goal

pub returns : goal.returns
returns c = kept_are_clear
