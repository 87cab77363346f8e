use Rattle.std.proofs.Common.{◌≡◌, ℕ, ◌<◌, length, get_or}
use Rattle.std.specs.Prelude.{None}
use Rattle.scip_pages.proofs.RunLemmas.{laid}
use Rattle.scip_pages.proofs.runs.lay.Given as goal

-- the span lies on the bytes so far
abbrev pub invariant-loop-at : goal.invariant-loop-at
invariant-loop-at l = (p : ℕ) → p < length l.spans
    → get_or l.spans p None ≡ laid l.span l.at (get_or l.fn.spans p None) p
