-- Spans laid over bytes, and runs of marks.
use Rattle.std.proofs.Common.{◌≡◌, ◌∙◌, sym, refl, ap, subst, ℕ, suc, zero, ◌+◌, ◌-◌, ◌<◌, ◌≤◌, ◌&&◌, Bool}
use Rattle.std.proofs.Common.{true, false, cond, nat_lt, nat_le, List, [], ◌∷◌, length, take, drop, get_or, inl}
use Rattle.std.proofs.Common.{inr, ◌⊎◌, arith, map, ◌++◌}
use Rattle.std.specs.Prelude.{Option, None, Some}
use Rattle.std.specs.List.{prefix_len, range_with_len}
use Rattle.std.proofs.lemmas.List.{take_all}
use Rattle.std.proofs.lemmas.Bool.{eq-eqb, lt-ltb, le-ltb, le-leb, lt-leb}
use Rattle.std.proofs.Math.Bool.{and-false}
use Rattle.scip_pages.proofs.CodeLemmas.{marks_same as same_is}
use Rattle.scip_pages.specs.declared.runs.Span.{Span}
use Rattle.scip_pages.specs.declared.runs.Run.{Run}
use Rattle.scip_pages.specs.Runs.{covers, narrower, span_at, number_of, marks_of, same_mark, onto_runs, runs_of}

-- what is there once a span is laid on the bytes before an offset
abbrev pub laid : Span → ℕ → Option Span → ℕ → Option Span
laid span at old p = cond (covers span p && nat_lt p at) (Some (narrower old span)) old

same_same : (a : Option ℕ) → same_mark a a ≡ true
same_same None = refl
same_same (Some a) = eq-eqb a a refl

abbrev run : ℕ → Option ℕ → Run
run n mark = record { len = n; occurrence = mark }

-- the first run, and what is behind it
pub runs_step : (mark : Option ℕ) (marks : List (Option ℕ))
    → runs_of (mark ∷ marks)
    ≡ record { len = prefix_len (same_mark mark) marks + 1; occurrence = mark }
    ∷ runs_of (drop (prefix_len (same_mark mark) marks) marks)
runs_step mark [] = refl
runs_step mark (x ∷ marks) = by (same_mark mark x) refl (runs_step x marks)
  where
    by : (b : Bool) → same_mark mark x ≡ b
        → runs_of (x ∷ marks) ≡ run (prefix_len (same_mark x) marks + 1) x
        ∷ runs_of (drop (prefix_len (same_mark x) marks) marks)
        → runs_of (mark ∷ (x ∷ marks))
        ≡ run (prefix_len (same_mark mark) (x ∷ marks) + 1) mark
        ∷ runs_of (drop (prefix_len (same_mark mark) (x ∷ marks)) (x ∷ marks))
    by false other first =
        ap (onto_runs 1 mark) first
        ∙ rw other (ap (λ (rs : List Run). run 1 mark ∷ rs) (sym first))
    by true same first =
        let k : ℕ = prefix_len (same_mark x) marks in
        let n : 1 + k ≡ suc k = omega arith in
        let m : 1 + (k + 1) ≡ suc k + 1 = omega arith in
        let whole : onto_runs 1 x (run (k + 1) x ∷ runs_of (drop k marks))
        ≡ run (1 + (k + 1)) x ∷ runs_of (drop k marks) = rw (same_same x) refl in
        let e : mark ≡ x = same_is mark x same in
        subst (λ (y : Option ℕ). runs_of (y ∷ (x ∷ marks))
        ≡ run (prefix_len (same_mark y) (x ∷ marks) + 1) y
        ∷ runs_of (drop (prefix_len (same_mark y) (x ∷ marks)) (x ∷ marks))) (sym e)
        (ap (onto_runs 1 x) first ∙ whole ∙ rw (same_same x, n, m) refl)

-- what is behind the first of some marks
abbrev pub behind : List (Option ℕ) → List (Option ℕ)
behind marks = take (length marks - 1) (drop 1 marks)

behind-cons : (mark : Option ℕ) (marks : List (Option ℕ)) → behind (mark ∷ marks) ≡ marks
behind-cons mark marks = take_all (length (mark ∷ marks) - 1) marks (omega arith)

pub length-behind : (marks : List (Option ℕ)) → 1 ≤ length marks → length (behind marks) + 1 ≡ length marks
length-behind [] some = absurd (omega (arith, some))
length-behind (mark ∷ marks) some = rw (behind-cons mark marks) (omega arith)

-- the first run of marks that are one at least
pub runs_next : (marks : List (Option ℕ)) (d : Option ℕ) → 1 ≤ length marks
    → runs_of marks ≡ record
    { len = prefix_len (same_mark (get_or marks 0 d)) (behind marks) + 1; occurrence = get_or marks 0 d }
    ∷ runs_of (drop (prefix_len (same_mark (get_or marks 0 d)) (behind marks)) (behind marks))
runs_next [] d some = absurd (omega (arith, some))
runs_next (mark ∷ marks) d some = rw (behind-cons mark marks) (runs_step mark marks)

-- bytes that nothing marks are one run
unmarked_from : (a n : ℕ)
    → runs_of (map number_of (map (span_at []) (range_with_len a (suc n)))) ≡ run (suc n) None ∷ []
unmarked_from a zero = refl
unmarked_from a (suc n) =
    let one : 1 + suc n ≡ suc (suc n) = omega arith in
    ap (onto_runs 1 None) (unmarked_from (a + 1) n) ∙ ap (λ (k : ℕ). run k None ∷ []) one

pub unmarked_runs : (len : ℕ) → (len ≡ 0 → ⊥) → runs_of (marks_of [] len) ≡ run len None ∷ []
unmarked_runs zero some = absurd (some refl)
unmarked_runs (suc n) some = unmarked_from 0 n

-- ---- lines that one span marks

-- the marks of so many bytes from one on
abbrev from_byte : Span → ℕ → ℕ → List (Option ℕ)
from_byte s a n = map number_of (map (span_at (s ∷ [])) (range_with_len a n))

-- the run of bytes that nothing marks, if there are any
abbrev plain_run : ℕ → List Run
plain_run zero = []
plain_run (suc n) = run (suc n) None ∷ []

plain_runs : (n : ℕ) → runs_of (marks_of [] n) ≡ plain_run n
plain_runs zero = refl
plain_runs (suc n) = unmarked_from 0 n

mark_outside : (s : Span) (p : ℕ) → (p < s.start) ⊎ (s.end ≤ p) → number_of (span_at (s ∷ []) p) ≡ None
mark_outside s p (inl before) = rw (lt-leb s.start p before) refl
mark_outside s p (inr past) = rw (le-ltb p s.end past, and-false (nat_le s.start p)) refl

mark_inside : (s : Span) (p : ℕ) → s.start ≤ p → p < s.end → number_of (span_at (s ∷ []) p) ≡ Some s.occurrence
mark_inside s p low high = rw (le-leb s.start p low, lt-ltb p s.end high) refl

one_longer : (mark : Option ℕ) (n : ℕ) (rest : List Run)
    → onto_runs 1 mark (run (suc n) mark ∷ rest) ≡ run (suc (suc n)) mark ∷ rest
one_longer mark n rest =
    let one : 1 + suc n ≡ suc (suc n) = omega arith in
    let whole : onto_runs 1 mark (run (suc n) mark ∷ rest) ≡ run (1 + suc n) mark ∷ rest = rw (same_same mark) refl in
    whole ∙ ap (λ (k : ℕ). run k mark ∷ rest) one

plain_longer : (n : ℕ) → onto_runs 1 None (plain_run n) ≡ plain_run (suc n)
plain_longer zero = refl
plain_longer (suc n) = one_longer None n []

onto_plain : (o n : ℕ) → onto_runs 1 (Some o) (plain_run n) ≡ run 1 (Some o) ∷ plain_run n
onto_plain o zero = refl
onto_plain o (suc n) = refl

-- behind the span
runs_behind : (s : Span) (a n : ℕ) → s.end ≤ a → runs_of (from_byte s a n) ≡ plain_run n
runs_behind s a zero past = refl
runs_behind s a (suc n) past =
    ap (λ (mark : Option ℕ). onto_runs 1 mark (runs_of (from_byte s (a + 1) n))) (mark_outside s a (inr past))
    ∙ ap (onto_runs 1 None) (runs_behind s (a + 1) n (omega (arith, past)))
    ∙ plain_longer n

-- from a byte of the span on
runs_inside : (s : Span) (k a n t : ℕ) → s.start ≤ a → a + (k + 1) ≡ s.end → n ≡ k + t
    → runs_of (from_byte s a (suc n)) ≡ run (suc k) (Some s.occurrence) ∷ plain_run t
runs_inside s zero a n t low ends all =
    let rest : n ≡ t = omega (arith, all) in
    ap (λ (mark : Option ℕ). onto_runs 1 mark (runs_of (from_byte s (a + 1) n)))
    (mark_inside s a low (omega (arith, ends)))
    ∙ ap (onto_runs 1 (Some s.occurrence)) (runs_behind s (a + 1) n (omega (arith, ends)))
    ∙ onto_plain s.occurrence n
    ∙ ap (λ (j : ℕ). run 1 (Some s.occurrence) ∷ plain_run j) rest
runs_inside s (suc k) a zero t low ends all = absurd (omega (arith, all))
runs_inside s (suc k) a (suc n) t low ends all =
    ap (λ (mark : Option ℕ). onto_runs 1 mark (runs_of (from_byte s (a + 1) (suc n))))
    (mark_inside s a low (omega (arith, ends)))
    ∙ ap (onto_runs 1 (Some s.occurrence))
    (runs_inside s k (a + 1) n t (omega (arith, low)) (omega (arith, ends)) (omega (arith, all)))
    ∙ one_longer (Some s.occurrence) k (plain_run t)

-- from a byte before the span on
runs_before : (s : Span) (k a n w t : ℕ) → a + (k + 1) ≡ s.start → s.start + (w + 1) ≡ s.end → n ≡ k + (w + 1) + t
    → runs_of (from_byte s a (suc n)) ≡ run (suc k) None ∷ (run (suc w) (Some s.occurrence) ∷ plain_run t)
runs_before s zero a zero w t starts wide all = absurd (omega (arith, all))
runs_before s zero a (suc n) w t starts wide all =
    ap (λ (mark : Option ℕ). onto_runs 1 mark (runs_of (from_byte s (a + 1) (suc n))))
    (mark_outside s a (inl (omega (arith, starts))))
    ∙ ap (onto_runs 1 None)
    (runs_inside s w (a + 1) n t (omega (arith, starts)) (omega (arith, starts, wide)) (omega (arith, all)))
runs_before s (suc k) a zero w t starts wide all = absurd (omega (arith, all))
runs_before s (suc k) a (suc n) w t starts wide all =
    ap (λ (mark : Option ℕ). onto_runs 1 mark (runs_of (from_byte s (a + 1) (suc n))))
    (mark_outside s a (inl (omega (arith, starts))))
    ∙ ap (onto_runs 1 None) (runs_before s k (a + 1) n w t (omega (arith, starts)) wide (omega (arith, all)))
    ∙ one_longer None k (run (suc w) (Some s.occurrence) ∷ plain_run t)

-- on a whole line
whole_line : (s : Span) (from n w t : ℕ) → s.start ≡ from → from + (w + 1) ≡ s.end → n + 1 ≡ from + (w + 1) + t
    → runs_of (from_byte s 0 (suc n)) ≡ plain_run from ++ run (suc w) (Some s.occurrence) ∷ plain_run t
whole_line s zero n w t starts wide all =
    runs_inside s w 0 n t (omega (arith, starts)) (omega (arith, wide)) (omega (arith, all))
whole_line s (suc k) n w t starts wide all =
    runs_before s k 0 n w t (omega (arith, starts)) (omega (arith, starts, wide)) (omega (arith, all))

pub marked_once_runs : (s : Span) (len : ℕ) → s.start < s.end → s.end ≤ len
    → runs_of (marks_of (s ∷ []) len)
    ≡ runs_of (marks_of [] s.start)
    ++ run (s.end - s.start) (Some s.occurrence) ∷ runs_of (marks_of [] (len - s.end))
marked_once_runs s zero some within = absurd (omega (arith, some, within))
marked_once_runs s (suc n) some within =
    let w : ℕ = s.end - s.start - 1 in
    let t : ℕ = suc n - s.end in
    let wide : suc w ≡ s.end - s.start = omega (arith, some) in
    whole_line s s.start n w t refl (omega (arith, some)) (omega (arith, some, within))
    ∙ ap (λ (k : ℕ). plain_run s.start ++ run k (Some s.occurrence) ∷ plain_run t) wide
    ∙ ap (λ (l : List Run). l ++ run (s.end - s.start) (Some s.occurrence) ∷ plain_run t) (sym (plain_runs s.start))
    ∙ ap (λ (l : List Run). runs_of (marks_of [] s.start) ++ run (s.end - s.start) (Some s.occurrence) ∷ l)
    (sym (plain_runs t))
