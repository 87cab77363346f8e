-- What tests that are true or false say.
use Rattle.std.proofs.Common.{◌≡◌, refl, subst, Bool, true, false, not, ◌&&◌, cond}

pub never : {A : Type 0} → false ≡ true → A
never e = absurd (subst (λ b. cond b ⊥ (Unit {0})) e tt)

pub first_no : (a b : Bool) → (not a && b) ≡ true → (a ≡ false) × (b ≡ true)
first_no true b e = never e
first_no false b e = (refl, e)
