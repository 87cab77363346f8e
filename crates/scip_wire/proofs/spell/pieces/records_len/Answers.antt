use Rattle.std.proofs.Common.{◌≡◌, ◌∙◌, ◌+◌, ◌-◌, ◌^◌, min, arith, length, ap, ℕ}
use Rattle.scip_wire.proofs.PieceLemmas.{len_further, len_done}
use Rattle.scip_wire.proofs.spell.pieces.records_len.Goals as goal

pub records-preserved : goal.records-preserved
records-preserved c =
    let before = c.records.invariant in
    let added : c.saturating_add-len.result ≡ min (c.records.len + length c.record-item.result) (2 ^ 64 - 1) =
    c.saturating_add-len.ensures ∙ ap (λ (n : ℕ). min (c.records.len + n) (2 ^ 64 - 1)) c.len.ensures
    in
    let sum = len_further c.args.records.now c.records.record-index c.record-item.result c.records.len _ _
    c.records-test.true c.record-item.is added before.sum in
    record { fits = omega (arith, c.saturating_add-len.ensures); sum = sum }

pub returns : goal.returns
returns c = len_done c.args.records.now c.records.record-index c.records.len _ c.records-test.false
    c.records.invariant.fits c.records.invariant.sum
