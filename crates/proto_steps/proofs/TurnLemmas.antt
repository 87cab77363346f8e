-- Outcomes, and turns by their first one.
use Rattle.std.proofs.Common.{◌≡◌, ℕ, zero, suc, ◌<◌, Bool, true, false, cond, nat_lt, Result, Ok, Err, length}
use Rattle.std.proofs.Common.{◌⊎◌, inl, inr, refl, ap, arith}
use Rattle.std.proofs.lemmas.Bool.{ltb-true}
use Rattle.proto_grammar.specs.declared.fault.SyntaxFault.{SyntaxFault}
use Rattle.proto_grammar.specs.Lexeme.{Lexeme, Place}
use Rattle.proto_grammar.specs.Terminal.{first_is}
use Rattle.proto_grammar.specs.Reading.Repetition.{and_then, Read, misplaced}
use Rattle.proto_steps.specs.Step.{further, turns_by, turns_at}

-- a chain that stops: in its first step, or in the rest
pub bind_err : {A B : Type 0} (o : Result A SyntaxFault) (f : A → Result B SyntaxFault) (e : SyntaxFault)
    → and_then o f ≡ Err e → (o ≡ Err e) ⊎ ((x : A) × (o ≡ Ok x) × (f x ≡ Err e))
bind_err (Err fault) f e h = inl cc
bind_err (Ok x) f e h = inr (x, refl, h)

pub same_err : {A : Type 0} (e f : SyntaxFault) → ◌≡◌ {A = Result A SyntaxFault} (Err e) (Err f) → e ≡ f
same_err e f h = cc

pub ok_not_err : {A : Type 0} (x : A) (e : SyntaxFault) → ◌≡◌ {A = Result A SyntaxFault} (Ok x) (Err e) → ⊥
ok_not_err x e h = cc

pub either : {A B P : Type 0} → A ⊎ B → (A → P) → (B → P) → P
either (inl a) f g = f a
either (inr b) f g = g b

-- a proof by the two cases
pub by_bool : {P : Type 0} (b : Bool) → (b ≡ true → P) → (b ≡ false → P) → P
by_bool true f g = f refl
by_bool false f g = g refl

pub by_result : {A P : Type 0} (o : Result A SyntaxFault) → ((x : A) → o ≡ Ok x → P)
    → ((e : SyntaxFault) → o ≡ Err e → P) → P
by_result (Ok x) f g = f x refl
by_result (Err e) f g = g e refl

pub same_bind : {A B : Type 0} (o : Result A SyntaxFault) (f g : A → Result B SyntaxFault) → ((x : A) → f x ≡ g x)
    → and_then o f ≡ and_then o g
same_bind (Ok x) f g h = h x
same_bind (Err e) f g h = refl

same_further : {S : Type 0} (place : Place) (f g : S → Read S) (x : S × Place)
    → (nat_lt (length x.1.left) (length place.left) ≡ true → f x.0 x.1 ≡ g x.0 x.1)
    → further place f x ≡ further place g x
same_further {S} place f g x h = by_test (nat_lt (length x.1.left) (length place.left)) h
  where
    by_test : (b : Bool) → (b ≡ true → f x.0 x.1 ≡ g x.0 x.1)
        → cond b (f x.0 x.1) (misplaced place) ≡ cond b (g x.0 x.1) (misplaced place)
    by_test true h = h refl
    by_test false h = refl

module _ {S : Type 0} (goes : Lexeme → Bool) (one : S → Read S) where
  -- no more turns than tokens
  enough : (n m : ℕ) (s : S) (place : Place) → length place.left < n → length place.left < m
      → turns_by goes one n s place ≡ turns_by goes one m s place
  enough zero m s place p q = absurd (omega arith)
  enough (suc n) zero s place p q = absurd (omega arith)
  enough (suc n) (suc m) s place p q =
      ap (λ o. cond (first_is goes place.left) o (Ok (s, place)))
      (same_bind (one s place) _ _
      (λ x. same_further place (turns_by goes one n) (turns_by goes one m) x
      (λ h. enough n m x.0 x.1 (omega (arith, ltb-true _ _ h)) (omega (arith, ltb-true _ _ h)))))

  -- none, or the first turn and all others
  pub first_turn : (s : S) (place : Place) → turns_at goes one s place
      ≡ cond (first_is goes place.left) (and_then (one s place) (further place (turns_at goes one))) (Ok (s, place))
  unfolding turns_at
  first_turn s place =
      ap (λ o. cond (first_is goes place.left) o (Ok (s, place)))
      (same_bind (one s place) _ _
      (λ x. same_further place (turns_by goes one (length place.left)) (turns_at goes one) x
      (λ h. enough (length place.left) (suc (length x.1.left)) x.0 x.1 (ltb-true _ _ h) (omega arith))))
