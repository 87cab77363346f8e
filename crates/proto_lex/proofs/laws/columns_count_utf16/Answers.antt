use Rattle.std.specs.List.{after_last}
use Rattle.std.proofs.Common.{take, arith}
use Rattle.std.proofs.lemmas.List.{length-take}
use Rattle.proto_lex.specs.Position.{is_line_end}
use Rattle.proto_lex.proofs.PositionLineBeforeLemmas.{IsUtf8-line_before}
use Rattle.proto_lex.proofs.PositionLemmas.{length-after_last-le}
use Rattle.proto_lex.proofs.PositionCodeUnitLemmas.{units_of_text, few_of_text}
use Rattle.proto_lex.proofs.laws.columns_count_utf16.Goals as goal

pub returns-clause-count : goal.returns-clause-count
returns-clause-count c text offset utf8 between =
    units_of_text (after_last is_line_end (take offset text)) (IsUtf8-line_before text offset utf8 between)

pub returns-clause-fit : goal.returns-clause-fit
returns-clause-fit c text offset utf8 between =
    omega (
      arith,
      few_of_text (after_last is_line_end (take offset text)) (IsUtf8-line_before text offset utf8 between),
      length-after_last-le is_line_end (take offset text),
      length-take offset text,
    )
