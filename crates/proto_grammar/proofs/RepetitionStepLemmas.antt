-- Steps that may meet a fault, taken apart.
use Rattle.std.proofs.Common.{◌≡◌, Bool, true, false, cond, ◌||◌, Result, Ok, Err, refl}
use Rattle.proto_grammar.specs.declared.fault.SyntaxFault.{SyntaxFault}
use Rattle.proto_grammar.specs.Reading.Repetition.{and_then}

-- what is read
abbrev pub read_as : {A : Type 0} → A → Result A SyntaxFault
read_as x = Ok x

-- is one thing
pub same_ok : {A : Type 0} (x y : A) → read_as x ≡ read_as y → x ≡ y
same_ok x y e = cc

-- a fault
abbrev pub stopped : {A : Type 0} → SyntaxFault → Result A SyntaxFault
stopped fault = Err fault

-- is one thing, whatever isn't read
pub same_stop : {A B : Type 0} (fault other : SyntaxFault) → stopped {A = A} fault ≡ stopped other
    → stopped {A = B} fault ≡ stopped other
same_stop fault other e = cc

-- a chain that gives a value: what its first step gave, and the rest of it
pub bind_ok : {A B : Type 0} (o : Result A SyntaxFault) (f : A → Result B SyntaxFault) (y : B) → and_then o f ≡ Ok y
    → (x : A) × (o ≡ Ok x) × (f x ≡ Ok y)
bind_ok (Err fault) f y e = cc
bind_ok (Ok x) f y e = (x, refl, e)

-- a guarded value: its guard holds
pub guard_ok : {A : Type 0} (b : Bool) (o : Result A SyntaxFault) (fault : SyntaxFault) (y : A)
    → cond b o (Err fault) ≡ Ok y → (b ≡ true) × (o ≡ Ok y)
guard_ok true o fault y e = (refl, e)
guard_ok false o fault y e = cc

-- a value behind a guard that has to fail
pub kept_ok : {A : Type 0} (b : Bool) (o : Result A SyntaxFault) (fault : SyntaxFault) (y : A)
    → cond b (Err fault) o ≡ Ok y → (b ≡ false) × (o ≡ Ok y)
kept_ok true o fault y e = cc
kept_ok false o fault y e = (refl, e)

-- one of two tests, by the two
pub either_true : {P : Type 0} (a b : Bool) → (a || b) ≡ true → (a ≡ true → P) → (b ≡ true → P) → P
either_true true b e left right = left refl
either_true false b e left right = right e

pub both_false : (a b : Bool) → (a || b) ≡ false → (a ≡ false) × (b ≡ false)
both_false true b e = cc
both_false false b e = (refl, e)
