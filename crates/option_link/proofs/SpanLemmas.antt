-- Spans in order start one behind the other.
use Rattle.std.proofs.Common.{◌≡◌, ◌↔◌, inl, inr, ℕ, zero, suc, ◌<◌, ◌≤◌, true, List, [], ◌∷◌, ◌++◌, IsTrue, eqb}
use Rattle.std.proofs.Common.{ap, ◌∙◌, subst, arith}
use Rattle.std.proofs.lemmas.Bool.{eqb-true}
use Rattle.std.proofs.lemmas.Bool.Decides.{nat_tests}
use Rattle.std.specs.List.{Contains}
use Rattle.std.proofs.lemmas.Option.{same_Some, slice_get_within}
use Rattle.std.proofs.lemmas.List.Elements.{Contains-append_right, Contains-append_cases}
use Rattle.basics.proofs.FirstLemmas.{contained}
use Rattle.basics.proofs.ListLemmas.{only}
use Rattle.proto_lex.specs.declared.span.Span.{Span}
use Rattle.proto_lex.specs.Lexed.{AreInOrder}
use Rattle.option_link.specs.Tables.{KeysRise}

abbrev pub span_start : Span → ℕ
span_start span = span.start

from_place : (place : ℕ) (spans : List Span) (span : Span) → AreInOrder place spans → Contains spans span
    → place ≤ span.start
from_place place [] span order there = absurd (omega (arith, there.1))
from_place place (first ∷ spans) span order there = elim (Contains-append_cases (first ∷ []) spans span there) [
  | inl one ↦ subst (λ (s : Span). place ≤ s.start) (only first span one) order.0
  | inr other ↦ omega (arith, order.0, order.1, from_place first.end spans span order.2 other)
]

pub in_order : (place : ℕ) (xs ys : List Span) (a b : Span) → AreInOrder place (xs ++ ys) → Contains xs a
    → Contains ys b → a.start < b.start
in_order place [] ys a b order there also = absurd (omega (arith, there.1))
in_order place (x ∷ xs) ys a b order there also = elim (Contains-append_cases (x ∷ []) xs a there) [
  | inl one ↦ omega (
    arith,
    ap (λ (s : Span). s.start) (only x a one),
    order.1,
    from_place x.end (xs ++ ys) b order.2 (Contains-append_right xs ys b also),
  )
  | inr other ↦ in_order x.end xs ys a b order.2 other also
]

pub later : (place : ℕ) (xs ys : List Span) → AreInOrder place (xs ++ ys) → (from : ℕ) × AreInOrder from ys
later place [] ys order = (place, order)
later place (x ∷ xs) ys order = later x.end xs ys order.2

pub spans_rise : (place : ℕ) (spans : List Span) → AreInOrder place spans → KeysRise span_start spans
spans_rise place [] order i j a b less at there = absurd (omega (arith, slice_get_within {A = Span} [] i a at))
spans_rise place (span ∷ spans) order i zero a b less at there = absurd (omega (arith, less))
spans_rise place (span ∷ spans) order zero (suc j) a b less at there = omega (
  arith,
  ap span_start (same_Some span a at),
  order.1,
  from_place span.end spans b order.2 (contained spans j b there),
)
spans_rise place (span ∷ spans) order (suc i) (suc j) a b less at there =
    spans_rise span.end spans order.2 i j a b (omega (arith, less)) at there

-- ---- the same span

eqb_same : (a b : ℕ) → a ≡ b → eqb a b ≡ true
eqb_same a b same = grind (arith, nat_tests)

abbrev spanning : ℕ → ℕ → Span
spanning start end = record { start = start; end = end }

pub span_by : (a b : Span) → a.start ≡ b.start → IsTrue (eqb a.end b.end) ↔ (a ≡ b)
span_by a b start = (
  λ t. ap (λ n. spanning n a.end) start ∙ ap (spanning b.start) (eqb-true a.end b.end t),
  λ same. eqb_same a.end b.end (ap (λ (s : Span). s.end) same),
)
