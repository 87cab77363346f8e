-- Numbers of which the first four are by themselves.
use Rattle.std.proofs.Common.{◌≡◌, refl, ap, sym, ◌∙◌, ℕ, ◌+◌, ◌<◌, List, [], ◌∷◌, ◌++◌, length, arith}
use Rattle.std.proofs.Common.{None}
use Rattle.std.proofs.lemmas.List.{append-nil, append_assoc}
use Rattle.scip_wire.specs.Reading.{range_at}

-- one more of the first, behind which there are none
pub added_first : (first others : List ℕ) (number : ℕ) → (0 < length others → length first ≡ 4) → length first < 4
    → (first ++ number ∷ []) ++ others ≡ (first ++ others) ++ number ∷ []
added_first first [] number full few =
    append-nil (first ++ number ∷ []) ∙ ap (λ l. l ++ number ∷ []) (sym (append-nil first))
added_first first (n ∷ others) number full few =
    absurd (let four : length first ≡ 4 = full (omega arith) in omega (arith, four, few))

-- one more of the others
pub added_behind : (first others : List ℕ) (number : ℕ)
    → first ++ (others ++ number ∷ []) ≡ (first ++ others) ++ number ∷ []
added_behind first others number = sym (append_assoc first others (number ∷ []))

pub are_first : (first others : List ℕ) → length others ≡ 0 → first ≡ first ++ others
are_first first [] none = sym (append-nil first)
are_first first (n ∷ others) none = absurd (omega (arith, none))

length_joined : (xs ys : List ℕ) → length (xs ++ ys) ≡ length xs + length ys
length_joined [] ys = omega arith
length_joined (x ∷ xs) ys = omega (arith, length_joined xs ys)

pub are_more : (first others : List ℕ) → (0 < length others → length first ≡ 4) → 0 < length others
    → 4 < length (first ++ others)
are_more first others full more =
    let four : length first ≡ 4 = full more in
    omega (arith, four, more, length_joined first others)

-- no range is made of more than four
pub no_range_of_more : (ns : List ℕ) → 4 < length ns → range_at ns ≡ None
unfolding range_at
no_range_of_more [] more = absurd (omega (arith, more))
no_range_of_more (a ∷ []) more = absurd (omega (arith, more))
no_range_of_more (a ∷ (b ∷ [])) more = absurd (omega (arith, more))
no_range_of_more (a ∷ (b ∷ (c ∷ []))) more = absurd (omega (arith, more))
no_range_of_more (a ∷ (b ∷ (c ∷ (d ∷ [])))) more = absurd (omega (arith, more))
no_range_of_more (a ∷ (b ∷ (c ∷ (d ∷ (e ∷ es))))) more = refl
