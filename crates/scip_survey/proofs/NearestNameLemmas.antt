-- The first of some names than which none is nearer.
use Rattle.std.proofs.Common.{◌≡◌, ℕ, zero, suc, ◌+◌, ◌<◌, ◌≤◌, ◌^◌, Bool, true, false, ◌||◌, nat_le, cond, List, []}
use Rattle.std.proofs.Common.{◌∷◌, length, map, take, get_or, refl, sym, ◌∙◌, ap, ap₂, arith}
use Rattle.std.specs.Prelude.{None, Some}
use Rattle.std.specs.Borrow.{Bor}
use Rattle.std.specs.Option.{option_map}
use Rattle.std.specs.List.{find, list_all, list_any}
use Rattle.std.proofs.lemmas.List.{take_all, take_more}
use Rattle.std.proofs.lemmas.List.Folds.{list_all-map, list_any-append}
use Rattle.scip_query.specs.CommandViews.{text_of}
use Rattle.scip_survey.specs.Near.{distance, nearest_of}

or_parts : (a b : Bool) → (a || b) ≡ false → (a ≡ false) × (b ≡ false)
or_parts true b e = absurd cc
or_parts false b e = (refl, e)

none_more : {X : Type 0} (test : X → Bool) (xs : List X) (i : ℕ) (d : X) → i < length xs
    → list_any test (take i xs) ≡ false → test (get_or xs i d) ≡ false → list_any test (take (i + 1) xs) ≡ false
none_more test xs i d inside before fails =
    ap (list_any test) (take_more xs i d inside)
    ∙ list_any-append test (take i xs) (get_or xs i d ∷ [])
    ∙ ap₂ (λ a b. a || (b || false)) before fails

found_at : {X : Type 0} (test : X → Bool) (xs : List X) (i : ℕ) (d : X) → i < length xs
    → list_any test (take i xs) ≡ false → test (get_or xs i d) ≡ true → find test xs ≡ Some (get_or xs i d)
found_at test [] i d inside before is = absurd (omega (arith, inside))
found_at test (x ∷ xs) zero d inside before is = rw is refl
found_at test (x ∷ xs) (suc i) d inside before is =
    let parts = or_parts (test x) (list_any test (take i xs)) before in
    rw parts.0 (found_at test xs i d (omega (arith, inside)) parts.1 is)

none_found : {X : Type 0} (test : X → Bool) (xs : List X) → list_any test xs ≡ false → find test xs ≡ None
none_found test [] e = refl
none_found test (x ∷ xs) e =
    let parts = or_parts (test x) (list_any test xs) e in rw parts.0 (none_found test xs parts.1)

find_seen : {A X : Type 0} (test : X → Bool) (view : A → X) (xs : List A)
    → find test (map view xs) ≡ option_map view (find (λ x. test (view x)) xs)
find_seen test view [] = refl
find_seen test view (x ∷ xs) = by (test (view x)) refl (find_seen test view xs) where
  by : (t : Bool) → test (view x) ≡ t → find test (map view xs) ≡ option_map view (find (λ a. test (view a)) xs)
      → find test (map view (x ∷ xs)) ≡ option_map view (find (λ a. test (view a)) (x ∷ xs))
  by true is rest = rw is refl
  by false is rest = rw is rest

-- none of some names is nearer to a text than this one
abbrev pub is_nearest : (text : List ℕ) → List (Bor (List ℕ)) → Bor (List ℕ) → Bool
is_nearest text names name =
    list_all (λ (other : Bor (List ℕ)). nat_le (distance text name.now) (distance text other.now)) names

-- that is so if it is as near as the nearest
pub near_is : (text : List ℕ) (names : List (Bor (List ℕ))) (name : Bor (List ℕ)) (least : ℕ) (near : Bool)
    → ((n : ℕ) → n < 2 ^ 64 → nat_le n least
    ≡ list_all (λ (other : Bor (List ℕ)). nat_le n (distance text other.now)) names)
    → distance text name.now < 2 ^ 64 → near ≡ nat_le (distance text name.now) least → near ≡ is_nearest text names name
near_is text names name least near all few is = is ∙ all (distance text name.now) few

pub no_more : (text : List ℕ) (names : List (Bor (List ℕ))) (i : ℕ) (d : Bor (List ℕ)) (near : Bool)
    → i < length names → near ≡ is_nearest text names (get_or names i d) → near ≡ false
    → list_any (is_nearest text names) (take i names) ≡ false
    → list_any (is_nearest text names) (take (i + 1) names) ≡ false
no_more text names i d near inside by fails before =
    none_more (is_nearest text names) names i d inside before (sym by ∙ fails)

seen : (text : List ℕ) (names : List (Bor (List ℕ)))
    → nearest_of text (map text_of names) ≡ option_map text_of (find (is_nearest text names) names)
seen text names =
    find_seen (λ name. list_all (λ other. nat_le (distance text name) (distance text other)) (map text_of names)) text_of
    names
    ∙ ap (option_map text_of) (same names)
  where
    same : (some : List (Bor (List ℕ)))
        → find (λ (x : Bor (List ℕ)). list_all (λ other. nat_le (distance text x.now) (distance text other))
        (map text_of names)) some
        ≡ find (is_nearest text names) some
    same [] = refl
    same (x ∷ some) =
        ap₂ (λ b o. cond b (Some x) o)
        (list_all-map (λ other. nat_le (distance text x.now) (distance text other)) text_of names) (same some)

pub found : (text : List ℕ) (names : List (Bor (List ℕ))) (i : ℕ) (d : Bor (List ℕ)) (near : Bool)
    → i < length names → near ≡ is_nearest text names (get_or names i d) → near ≡ true
    → list_any (is_nearest text names) (take i names) ≡ false
    → Some (text_of (get_or names i d)) ≡ nearest_of text (map text_of names)
found text names i d near inside by holds before =
    sym (seen text names ∙ ap (option_map text_of)
    (found_at (is_nearest text names) names i d inside before (sym by ∙ holds)))

pub not_found : (text : List ℕ) (names : List (Bor (List ℕ))) (i : ℕ) → length names ≤ i
    → list_any (is_nearest text names) (take i names) ≡ false → None ≡ nearest_of text (map text_of names)
not_found text names i past before =
    sym (seen text names ∙ ap (option_map text_of) (none_found (is_nearest text names) names
    (ap (list_any (is_nearest text names)) (sym (take_all i names past)) ∙ before)))
