use Rattle.std.proofs.Common.{ap, sym, ◌∙◌, not, ℕ}
use Rattle.arrayvec.specs.ArrayVec.{ArrayVec}
use Rattle.scip_wire.proofs.BufferLemmas.{Passes-in, Passes-flushed, Passes-past, put_of, tried, refused}
use Rattle.scip_wire.proofs.spell.buffer.BufferOutput.put.Goals as goal

pub returns-then-is_ok : goal.returns-then-is_ok
returns-then-is_ok g c =
    let ok = sym c.is_ok.ensures.value ∙ c.if-is_ok.true in
    put_of g.W.Sink _ _ _ _ _
    (Passes-in g.W.Sink _ _ _ _ _
    (tried _ c.try_extend_from_slice.result ok c.try_extend_from_slice.ensures.ok))

pub returns-then-is_err : goal.returns-then-is_err
returns-then-is_err g c =
    let first = sym c.is_ok.ensures.value ∙ c.if-is_ok.false in
    let second = c.is_err.ensures.negation ∙ ap not c.if-is_err.true in
    let same = ap (λ (v : ArrayVec ℕ). v.items)
    (refused _ c.try_extend_from_slice.result first c.try_extend_from_slice.ensures.err) in
    let kept = ap (λ (v : ArrayVec ℕ). v.items)
    (refused _ c.try_extend_from_slice-2.result second c.try_extend_from_slice-2.ensures.err) in
    put_of g.W.Sink _ _ _ _ _
    (Passes-past g.W.Sink _ _ _ _ _ _ _ _ _ _ _ same c.flush.ensures.empty kept
    c.flush.ensures.put c.send.ensures)

pub returns-else-is_err : goal.returns-else-is_err
returns-else-is_err g c =
    let first = sym c.is_ok.ensures.value ∙ c.if-is_ok.false in
    let second = c.is_err.ensures.negation ∙ ap not c.if-is_err.false in
    let same = ap (λ (v : ArrayVec ℕ). v.items)
    (refused _ c.try_extend_from_slice.result first c.try_extend_from_slice.ensures.err) in
    let more = tried _ c.try_extend_from_slice-2.result second c.try_extend_from_slice-2.ensures.ok in
    put_of g.W.Sink _ _ _ _ _
    (Passes-flushed g.W.Sink _ _ _ _ _ _ _ _ _ same c.flush.ensures.empty more
    c.flush.ensures.put)
