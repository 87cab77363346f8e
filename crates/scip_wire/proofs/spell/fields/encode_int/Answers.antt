use Rattle.std.proofs.Common.{◌≡◌, arith, ap, ◌∙◌, rules, to_z, of_z, w32}
use Rattle.scip_wire.specs.Spelling.{bytes_of, number_fields, int_fields}
use Rattle.scip_wire.proofs.OutputLemmas.{alike, both, nothing, number_some, number_none}
use Rattle.scip_wire.proofs.spell.fields.encode_int.Goals as goal

pub returns-then-bits-ne0 : goal.returns-then-bits-ne0
returns-then-bits-ne0 g c =
    let k = c.args.number in
    let same : to_z w32 (of_z w32 c.args.value) ≡ c.args.value = search rules in
    alike (number_some k _ (omega (arith, c.if-bits-ne0.true))
    ∙ ap (λ n. bytes_of (number_fields k n)) c.in_64_bits-bits.ensures ∙ ap (λ z. bytes_of (int_fields k z)) same)
    (both c.encode_varint.ensures c.encode_varint-then-bits-ne0.ensures)

pub returns-else-bits-ne0 : goal.returns-else-bits-ne0
returns-else-bits-ne0 g c =
    let k = c.args.number in
    let same : to_z w32 (of_z w32 c.args.value) ≡ c.args.value = search rules in
    alike (number_none k _ (omega (arith, c.if-bits-ne0.false))
    ∙ ap (λ n. bytes_of (number_fields k n)) c.in_64_bits-bits.ensures ∙ ap (λ z. bytes_of (int_fields k z)) same)
    nothing
