use Rattle.std.proofs.Common.{arith}
use Rattle.std.proofs.lemmas.Grind.{text_groups}
use Rattle.proto_visibility.proofs.names.add_declared.Goals as goal

pub returns : goal.returns
returns c = λ other. grind (arith, text_groups)
