use Rattle.std.proofs.Common.{arith}
use Rattle.std.proofs.lemmas.Grind.{text_groups}
use Rattle.proto_visibility.proofs.names.add_prefix.Goals as goal

pub returns-in-Some : goal.returns-in-Some
returns-in-Some c = λ other. grind (arith, text_groups)
