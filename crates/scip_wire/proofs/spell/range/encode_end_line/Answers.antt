use Rattle.std.proofs.Common.{ap, sym, ◌∙◌}
use Rattle.scip_wire.specs.Spelling.{varint}
use Rattle.scip_wire.proofs.OutputLemmas.{alike, nothing, left_in, left_out}
use Rattle.scip_wire.proofs.spell.range.encode_end_line.Goals as goal

pub returns-then-not-is_on_one_line : goal.returns-then-not-is_on_one_line
returns-then-not-is_on_one_line g c =
    let line = ap varint (c.from.ensures ∙ c.end_line.ensures) in
    let other = sym c.is_on_one_line.ensures ∙ c.if-not-is_on_one_line.true in
    alike (line ∙ left_in _ (varint c.args.range.now.end_line) other) c.encode_varint.ensures

pub returns-else-not-is_on_one_line : goal.returns-else-not-is_on_one_line
returns-else-not-is_on_one_line g c =
    let same = sym c.is_on_one_line.ensures ∙ c.if-not-is_on_one_line.false in
    alike (left_out _ (varint c.args.range.now.end_line) same) nothing
