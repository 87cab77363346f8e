use Rattle.std.proofs.Common.{◌≡◌, ℕ, ◌<◌, length, get_or, take}
use Rattle.std.specs.Prelude.{None}
use Rattle.scip_pages.specs.Runs.{span_at}
use Rattle.scip_pages.proofs.runs.spans_at.Given as goal

-- the narrowest of the spans so far
abbrev pub invariant-loop-span : goal.invariant-loop-span
invariant-loop-span l = record {
  sized : length l.found.items ≡ l.len;
  narrowest : (p : ℕ) → p < l.len → get_or l.found.items p None ≡ span_at (take l.span-index l.spans) p;
}
