use Rattle.std.proofs.Common.{ap, ◌∙◌}
use Rattle.scip_wire.specs.Spelling.{varint}
use Rattle.scip_wire.proofs.OutputLemmas.{alike, both, numbers_joined}
use Rattle.scip_wire.proofs.spell.range.encode_numbers.Goals as goal

pub returns : goal.returns
returns g c =
    let line = alike (ap varint (c.from.ensures ∙ c.start_line.ensures.value)) c.encode_varint.ensures in
    let column = alike (ap varint (c.from-2.ensures ∙ c.start_column.ensures)) c.encode_varint-2.ensures in
    let end_column = alike (ap varint (c.from-3.ensures ∙ c.end_column.ensures)) c.encode_varint-3.ensures in
    alike (numbers_joined c.args.range.now) (both line (both column (both c.encode_end_line.ensures end_column)))
