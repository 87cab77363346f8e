use Rattle.std.proofs.Common.{ap, ◌∙◌, not, ℕ}
use Rattle.arrayvec.specs.ArrayVec.{ArrayVec}
use Rattle.scip_wire.proofs.BufferLemmas.{Passes-in, kept, passed, put_of, tried, refused}
use Rattle.scip_wire.proofs.spell.buffer.BufferOutput.put_byte.Goals as goal

pub returns-then-is_err : goal.returns-then-is_err
returns-then-is_err g c =
    let full = c.is_err.ensures.negation ∙ ap not c.if-is_err.true in
    let same = ap (λ (v : ArrayVec ℕ). v.items) (refused _ c.try_push.result full c.try_push.ensures.err) in
    put_of g.W.Sink _ _ _ _ _
    (kept same (passed g.W.Sink _ _ _ _ _ c.put.ensures))

pub returns-else-is_err : goal.returns-else-is_err
returns-else-is_err g c =
    let fits = c.is_err.ensures.negation ∙ ap not c.if-is_err.false in
    put_of g.W.Sink _ _ _ _ _
    (Passes-in g.W.Sink _ _ _ _ _
    (tried _ c.try_push.result fits c.try_push.ensures.ok))
