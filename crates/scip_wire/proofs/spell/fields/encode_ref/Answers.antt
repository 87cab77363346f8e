use Rattle.std.proofs.Common.{sym, ap, ◌∙◌}
use Rattle.scip_wire.specs.Spelling.{bytes_of, text_fields}
use Rattle.scip_wire.proofs.OutputLemmas.{alike, nothing, text_none}
use Rattle.scip_wire.proofs.spell.fields.encode_ref.Goals as goal

pub returns-else-not-is_empty : goal.returns-else-not-is_empty
returns-else-not-is_empty g c =
    let text = c.as_bytes-bytes.ensures.value in
    alike (text_none c.args.number _ (sym c.is_empty.ensures ∙ c.if-not-is_empty.false)
    ∙ ap (λ bytes. bytes_of (text_fields c.args.number bytes)) text) nothing
