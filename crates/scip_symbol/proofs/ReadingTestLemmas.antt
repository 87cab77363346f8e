-- Reads, choices and tests.
use Rattle.std.proofs.Common.{◌≡◌, ◌≢◌, ℕ, eqb, true, false, Option, Some, None, Ok, Err, refl, ap}
use Rattle.std.proofs.lemmas.Bool.{eqb-true}
use Rattle.scip_symbol.specs.Reading.{Read, ◌>>=◌, choose}

-- a chain that succeeds has a first step that succeeds
pub bind_ok : {A B : Type 0} (r : Read A) (f : A → Read B) (y : B) → (r >>= f) ≡ Ok y
    → (x : A) × (r ≡ Ok x) × (f x ≡ Ok y)
bind_ok (Ok x) f y e = (x, refl, e)
bind_ok (Err d) f y e = cc

-- where a chain fails, its first step does or what follows does
pub bind_err : {A B P : Type 0} (r : Read A) (f : A → Read B) (left : ℕ) → (r >>= f) ≡ Err left
    → (r ≡ Err left → P) → ((x : A) → r ≡ Ok x → f x ≡ Err left → P) → P
bind_err (Ok x) f left e p q = q x refl e
bind_err (Err l) f left e p q = let same : l ≡ left = cc in p (ap (λ n. Err n) same)

pub bind_of_ok : {A B : Type 0} {r : Read A} (f : A → Read B) {x : A} → r ≡ Ok x → (r >>= f) ≡ f x
bind_of_ok f {x} e = ap (λ r. r >>= f) e

pub bind_of_err : {A B : Type 0} {r : Read A} (f : A → Read B) {left : ℕ} → r ≡ Err left → (r >>= f) ≡ Err left
bind_of_err f e = ap (λ r. r >>= f) e

-- which side a choice took
pub chosen : {A B P : Type 0} (o : Option A) {otherwise : B} {next : A → B} {y : B} → choose o otherwise next ≡ y
    → (o ≡ None → otherwise ≡ y → P) → ((x : A) → o ≡ Some x → next x ≡ y → P) → P
chosen None e p q = p refl e
chosen (Some x) e p q = q x refl e

pub choose_some : {A B : Type 0} {o : Option A} (otherwise : B) (next : A → B) {x : A} → o ≡ Some x
    → choose o otherwise next ≡ next x
choose_some otherwise next e = ap (λ o. choose o otherwise next) e

pub choose_none : {A B : Type 0} {o : Option A} (otherwise : B) (next : A → B) → o ≡ None
    → choose o otherwise next ≡ otherwise
choose_none otherwise next e = ap (λ o. choose o otherwise next) e

pub same_ok : {A : Type 0} {x y : A} (r : Read A) → r ≡ Ok x → r ≡ Ok y → x ≡ y
same_ok r e f = cc

pub ne-test : (a b : ℕ) → a ≢ b → eqb a b ≡ false
ne-test a b h =
    elim (eqb a b) as (λ t. eqb a b ≡ t → t ≡ false) [
      | true ↦ λ t. absurd (h (eqb-true a b t))
      | false ↦ λ _. refl
    ] refl
