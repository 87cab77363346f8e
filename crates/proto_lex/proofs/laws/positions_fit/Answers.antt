use Rattle.std.proofs.Common.{take, arith}
use Rattle.std.proofs.lemmas.List.{length-take}
use Rattle.proto_lex.proofs.PositionLemmas.{column-le, byte_column-le}
use Rattle.proto_lex.proofs.laws.positions_fit.Goals as goal

pub returns-clause-columns : goal.returns-clause-columns
returns-clause-columns c encoding text offset =
    omega (arith, column-le encoding (take offset text), length-take offset text)

pub returns-clause-bytes : goal.returns-clause-bytes
returns-clause-bytes c text offset = omega (arith, byte_column-le (take offset text), length-take offset text)
