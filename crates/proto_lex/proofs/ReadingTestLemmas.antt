-- Readings that may fail, and tests and slices that they take apart.
use Rattle.std.proofs.Common.{◌≡◌, ◌+◌, ◌-◌, ◌≤◌, Bool, true, false, ◌||◌, ◌&&◌, cond, Some, None, Ok, Err, List, []}
use Rattle.std.proofs.Common.{◌∷◌, length, drop, take, refl, ap, arith}
use Rattle.std.proofs.lemmas.List.{take_all}
use Rattle.proto_lex.specs.Reading.{Read, ◌>>=◌}
use Rattle.proto_lex.specs.declared.fault.LexFault.{LexFault}

-- which side a choice took
pub chosen : {A P : Type 0} (b : Bool) {x y z : A} → cond b x y ≡ z → (b ≡ true → x ≡ z → P) → (b ≡ false → y ≡ z → P)
    → P
chosen true e p q = p refl e
chosen false e p q = q refl e

-- two tests at once
pub both : {P : Type 0} (a b : Bool) → (a && b) ≡ true → (a ≡ true → b ≡ true → P) → P
both true b e p = p refl e
both false b e p = absurd cc

pub either : {P : Type 0} (a b : Bool) → (a || b) ≡ true → (a ≡ true → P) → (a ≡ false → b ≡ true → P) → P
either true b e p q = p refl
either false b e p q = q refl e

-- what stands after the first element, as a slice pattern gives it
pub after-cons : {A : Type 0} (x : A) (xs : List A) → take (length (x ∷ xs) - 1) (drop 1 (x ∷ xs)) ≡ xs
after-cons x xs = let e : length (x ∷ xs) - 1 ≡ length xs = omega arith in rw e (take_all (length xs) xs (omega arith))

pub length-after : {A : Type 0} (xs : List A) → 1 ≤ length xs
    → length (take (length xs - 1) (drop 1 xs)) + 1 ≡ length xs
length-after [] h = absurd (omega arith)
length-after (x ∷ xs) h = rw (after-cons x xs) (omega arith)

-- a reading is one value or one fault

pub same_ok : {A : Type 0} (x y : A) (r : Read A) → r ≡ Ok x → r ≡ Ok y → x ≡ y
same_ok x y r e f = cc

pub ok_not_err : {A P : Type 0} {d : LexFault} {x : A} → Ok x ≡ Err d → P
ok_not_err e = absurd cc

pub same_err : {A : Type 0} (c d : LexFault) (r : Read A) → r ≡ Err c → r ≡ Err d → c ≡ d
same_err c d r e f = cc

pub err_not_ok : {A E P : Type 0} {d : E} {x : A} → Err d ≡ Ok x → P
err_not_ok e = absurd cc

-- a chain that succeeds has a first step that succeeds
pub bind_ok : {A B : Type 0} (r : Read A) (f : A → Read B) (y : B) → (r >>= f) ≡ Ok y
    → (x : A) × (r ≡ Ok x) × (f x ≡ Ok y)
bind_ok (Ok x) f y e = (x, refl, e)
bind_ok (Err d) f y e = cc

pub bind_of_ok : {A B : Type 0} {r : Read A} (f : A → Read B) {x : A} → r ≡ Ok x → (r >>= f) ≡ f x
bind_of_ok f {x} e = ap (λ r. r >>= f) e

pub bind_of_err : {A B : Type 0} {r : Read A} (f : A → Read B) {d : _} → r ≡ Err d → (r >>= f) ≡ Err d
bind_of_err f e = ap (λ r. r >>= f) e

-- a chain that fails, fails at its first step or after it
pub bind_err : {A B P : Type 0} (r : Read A) (f : A → Read B) (d : LexFault) → (r >>= f) ≡ Err d
    → (r ≡ Err d → P) → ((x : A) → r ≡ Ok x → f x ≡ Err d → P) → P
bind_err (Ok x) f d e p q = q x refl e
bind_err (Err c) f d e p q = let same : c ≡ d = cc in p (ap Err same)
