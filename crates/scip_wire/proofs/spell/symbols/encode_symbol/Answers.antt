use Rattle.std.proofs.Common.{◌≡◌, ◌∙◌, length, arith, ap}
use Rattle.scip_wire.specs.Saturated.{saturated}
use Rattle.scip_wire.proofs.SpellingRefLemmas.{symbol_record, empty_symbol}
use Rattle.scip_wire.proofs.OutputLemmas.{alike, both, nothing}
use Rattle.scip_wire.proofs.spell.symbols.encode_symbol.Goals as goal

pub returns-then-len-ne0 : goal.returns-then-len-ne0
returns-then-len-ne0 g c =
    let symbol = c.symbol.inside in
    let len : c.parts_len-len.result ≡ saturated (length c.args.symbol.now) =
    c.parts_len-len.ensures.value ∙ ap (λ text. saturated (length text)) c.symbol.view_is in
    let front = alike c.as_bytes.ensures.value c.put.ensures in
    let rest = alike c.as_bytes-then-len-ne0.ensures.value c.put-then-len-ne0.ensures in
    alike (symbol_record c.args.number c.parts_len-len.result symbol.front.now symbol.rest.now c.args.symbol.now
    (omega (arith, c.if-len-ne0.true)) len c.requires.short c.symbol.view_is)
    (both c.encode_varint.ensures (both c.encode_varint-then-len-ne0.ensures (both front rest)))

pub returns-else-len-ne0 : goal.returns-else-len-ne0
returns-else-len-ne0 g c =
    let len : c.parts_len-len.result ≡ saturated (length c.args.symbol.now) =
    c.parts_len-len.ensures.value ∙ ap (λ text. saturated (length text)) c.symbol.view_is in
    alike (empty_symbol c.args.number c.parts_len-len.result c.args.symbol.now (omega (arith, c.if-len-ne0.false)) len)
    nothing
