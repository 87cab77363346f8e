use Rattle.proto_parse.proofs.Found.Files.{as_relation}
use Rattle.proto_parse.proofs.Filled.{file_filled}
use Rattle.proto_parse.proofs.laws.names_have_components.Goals as goal

pub returns : goal.returns
returns c = λ text tokens file d. file_filled file (as_relation d.1)
