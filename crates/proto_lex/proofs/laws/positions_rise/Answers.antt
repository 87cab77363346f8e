use Rattle.std.proofs.Common.{get_or, arith}
use Rattle.proto_lex.specs.declared.position.Encoding.TheVariants.{Utf8}
use Rattle.proto_lex.proofs.PositionBeforeLemmas.{rise, lead_counts}
use Rattle.proto_lex.proofs.laws.positions_rise.Goals as goal

pub returns-clause-characters : goal.returns-clause-characters
returns-clause-characters c encoding text a b between less inside =
    rise encoding text a b less inside (lead_counts encoding (get_or text a 0) (between.1 (omega arith)))

pub returns-clause-bytes : goal.returns-clause-bytes
returns-clause-bytes c text a b less inside = rise Utf8 text a b less inside (omega arith)
