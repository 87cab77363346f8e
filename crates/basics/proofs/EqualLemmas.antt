-- What holds of some values holds of values that are equal to them.
use Rattle.std.proofs.Common.{◌≡◌, subst}

pub moved2 : {A B : Type 0} {a w : A} {b x : B} (P : A → B → Type 0) → a ≡ w → b ≡ x → P a b → P w x
moved2 {a = a} {x = x} P p q h = subst (λ v. P v x) p (subst (λ v. P a v) q h)

pub moved4 : {A B C D : Type 0} {a w : A} {b x : B} {c y : C} {d z : D} (P : A → B → C → D → Type 0) → a ≡ w → b ≡ x
    → c ≡ y → d ≡ z → P a b c d → P w x y z
moved4 {a = a} {b = b} {x = x} {c = c} {y = y} {z = z} P p q r s h =
    subst (λ v. P v x y z) p (subst (λ v. P a v y z) q (subst (λ v. P a b v z) r (subst (λ v. P a b c v) s h)))
