-- Laws of what marks a line's bytes.
use Rattle.std.specs.Prelude.{ℕ, ◌≡◌, ◌≤◌, true, false, List, None, Some}
use Rattle.std.specs.List.{AllByRecursion}
use Rattle.scip_pages.specs.declared.runs.Span.{Span}
use Rattle.scip_pages.specs.Runs.{covers, width, span_at}

-- If no span is found for a byte, none covers it.
abbrev pub NoneCovers : Type 0
NoneCovers = (spans : List Span) (at : ℕ) → span_at spans at ≡ None
    → AllByRecursion (λ (other : Span). covers other at ≡ false) spans

-- The span that is found covers the byte, and no other that does is narrower.
abbrev pub NoneIsNarrower : Type 0
NoneIsNarrower =
    (spans : List Span) (at : ℕ) (span : Span) → span_at spans at ≡ Some span
    → (covers span at ≡ true)
    × AllByRecursion (λ (other : Span). covers other at ≡ true → width span ≤ width other) spans
