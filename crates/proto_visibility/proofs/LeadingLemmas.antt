-- What public imports lead to from files.
use Rattle.std.proofs.Common.{◌≡◌, ◌↔◌, ◌⊎◌, inl, inr, ℕ, ◌+◌, ◌<◌, zero, suc, Bool, true, false, List, []}
use Rattle.std.proofs.Common.{◌∷◌, ◌++◌, length, get_or, set, take, Option, Some, refl, ap, sym, ◌∙◌, subst, arith}
use Rattle.std.specs.List.{Contains, slice_get}
use Rattle.std.proofs.lemmas.Bool.{cases_eq}
use Rattle.std.proofs.lemmas.Option.{slice_get_within, slice_get-get_or, get_or_from_slice_get, same_Some}
use Rattle.std.proofs.lemmas.List.{get_or-set_other, get_or-set_same, get_or_append_left, length-set, length_push}
use Rattle.proto_visibility.specs.declared.import_table.Steps.{Steps}
use Rattle.proto_visibility.specs.Sees.{LeadsTo, SeesBy}
use Rattle.proto_visibility.specs.Sees.LeadsTo.{at_once, through}
use Rattle.proto_visibility.specs.Sees.SeesBy.{itself, import}
use Rattle.proto_visibility.specs.Tables.ImportTables.{HasStep, IsLedTo}
use Rattle.proto_visibility.specs.Tables.Leading.{AreLed, IsLed}
use Rattle.proto_visibility.proofs.FileOrderLemmas.{first_and_next}
use Rattle.proto_visibility.proofs.SeeingLemmas.{leads_see, rows_more, steps_listed}

-- ---- by the steps of a file

-- from a file they lead to itself, and to what they lead to from those that it imports publicly
pub led_by : (table : List Steps) (file : ℕ) (steps : Steps) → slice_get table file ≡ Some steps → (other : ℕ)
    → LeadsTo (HasStep table) file other
    ↔ ((other ≡ file) ⊎ IsLedTo (HasStep table) steps.public.items other)
led_by table file steps stands other = (
  there file stands,
  λ by. elim by [
    | inl same ↦ subst (LeadsTo (HasStep table) file) (sym same) at_once
    | inr led ↦ through ((steps_listed table file steps stands true led.0).1 led.1) led.2
  ],
)
  where
    there : (from : ℕ) → slice_get table from ≡ Some steps → LeadsTo (HasStep table) from other
        → (other ≡ from) ⊎ IsLedTo (HasStep table) steps.public.items other
    there from at at_once = inl refl
    there from at (through {next = next} step rest) =
        inr (next, (steps_listed table from steps at true next).0 step, rest)

-- a file sees what they lead to from it, and from those that it imports, but not publicly
pub seen_by : (table : List Steps) (file : ℕ) (steps : Steps) → slice_get table file ≡ Some steps → (other : ℕ)
    → SeesBy (HasStep table) file other
    ↔ (LeadsTo (HasStep table) file other ⊎ IsLedTo (HasStep table) steps.plain.items other)
seen_by table file steps stands other = (
  there file stands,
  λ by. elim by [
    | inl leads ↦ leads_see leads
    | inr led ↦ import ((steps_listed table file steps stands false led.0).1 led.1) led.2
  ],
)
  where
    there : (from : ℕ) → slice_get table from ≡ Some steps → SeesBy (HasStep table) from other
        → LeadsTo (HasStep table) from other ⊎ IsLedTo (HasStep table) steps.plain.items other
    there from at itself = inl at_once
    there from at (import {next = next} {publicly = true} step rest) = inl (through step rest)
    there from at (import {next = next} {publicly = false} step rest) =
        inr (next, (steps_listed table from steps at false next).0 step, rest)

-- from the first so many files and the next one
pub led_next : (I : ℕ → Bool → ℕ → Type 0) (files : List ℕ) (index next : ℕ) → index < length files
    → next ≡ get_or files index 0 → (other : ℕ)
    → IsLedTo I (take (index + 1) files) other ↔ (IsLedTo I (take index files) other ⊎ LeadsTo I next other)
led_next I files index next within is other = (
  λ led. elim ((first_and_next files index next led.0 within is).0 led.1) [
    | inl old ↦ inl (led.0, old, led.2)
    | inr same ↦ inr (subst (λ n. LeadsTo I n other) same led.2)
  ],
  λ by. elim by [
    | inl led ↦ (led.0, (first_and_next files index next led.0 within is).1 (inl led.1), led.2)
    | inr leads ↦ (next, (first_and_next files index next next within is).1 (inr refl), leads)
  ],
)

pub led_from_none : (I : ℕ → Bool → ℕ → Type 0) (other : ℕ) → IsLedTo I [] other → ⊥
led_from_none I other led = omega (arith, led.1.1)

-- from one file alone
pub led_from_one : (I : ℕ → Bool → ℕ → Type 0) (file other : ℕ) → IsLedTo I (file ∷ []) other ↔ LeadsTo I file other
led_from_one I file other = (
  λ led. subst (λ n. LeadsTo I n other) (sym (only file led.0 led.1)) led.2,
  λ leads. (file, (0, omega arith, refl), leads),
)
  where
    only : (x y : ℕ) → Contains (x ∷ []) y → x ≡ y
    only x y (zero, h, e) = e
    only x y (suc k, h, e) = absurd (omega arith)

-- ---- the rows that are known

set_same : (xs : List (Option ℕ)) (k : ℕ) (x y : Option ℕ) → k < length xs → slice_get (set xs k x) k ≡ Some y → x ≡ y
set_same xs k x y within stands =
    sym (get_or-set_same xs k x y within) ∙ get_or_from_slice_get (set xs k x) k y y stands

set_other : (xs : List (Option ℕ)) (k j : ℕ) (x y : Option ℕ) → (j ≡ k → ⊥) → slice_get (set xs k x) j ≡ Some y
    → slice_get xs j ≡ Some y
set_other xs k j x y differs stands =
    let within = slice_get_within (set xs k x) j y stands in
    slice_get-get_or xs j y (omega (arith, within, length-set xs k x))
    ∙ ap Some (sym (get_or-set_other xs k j x y differs) ∙ get_or_from_slice_get (set xs k x) j y y stands)

pub one_led : (table : List Steps) (order : List ℕ) (indexes : List (Option ℕ)) (rows : List (List ℕ)) (row : List ℕ)
    (file : ℕ) → AreLed table order indexes rows → file < length indexes → IsLed table order row file
    → AreLed table order (set indexes file (Some (length rows))) (rows ++ row ∷ [])
one_led table order indexes rows row file so_far within is = record {
  one_each = length-set indexes file (Some (length rows)) ∙ so_far.one_each;
  listed = λ one index stands. elim (cases_eq one file) [
    | inl same ↦ omega (arith, last one index same stands, length_push rows row)
    | inr other ↦ (
        let old = so_far.listed one index
        (set_other indexes file one (Some (length rows)) (Some index) other stands) in
        omega (arith, old, length_push rows row))
  ];
  led = λ one index its stands listed. elim (cases_eq one file) [
    | inl same ↦ (
        let at : length rows ≡ index = last one index same stands in
        rows_more (λ n (places : List ℕ). (n ≡ length rows) → IsLed table order places one) rows row
        (λ e. subst (IsLed table order row) (sym same) is)
        (λ n places old e. absurd (omega (arith, e, slice_get_within rows n places old)))
        index its listed (sym at))
    | inr other ↦ (
        let held = set_other indexes file one (Some (length rows)) (Some index) other stands in
        let inside = so_far.listed one index held in
        so_far.led one index its held
        (slice_get-get_or rows index its inside ∙ ap Some
        (sym (get_or_append_left rows (row ∷ []) its index inside)
        ∙ get_or_from_slice_get (rows ++ row ∷ []) index its its listed)))
  ];
}
  where
    last : (one index : ℕ) → one ≡ file → slice_get (set indexes file (Some (length rows))) one ≡ Some (Some index)
        → length rows ≡ index
    last one index same stands =
        same_Some (length rows) index
        (set_same indexes file (Some (length rows)) (Some index) within
        (subst (λ n. slice_get (set indexes file (Some (length rows))) n ≡ Some (Some index)) same stands))
