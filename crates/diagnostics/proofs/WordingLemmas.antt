-- A list of hints, from its front.
use Rattle.std.proofs.Common.{◌≡◌, ◌∙◌, ℕ, zero, suc, ◌-◌, ◌≤◌, List, [], ◌∷◌, ◌++◌, length, take, drop, get_or, ap}
use Rattle.std.proofs.Common.{append_assoc, arith, refl}
use Rattle.std.specs.Prelude.{codes}
use Rattle.std.specs.Borrow.{Bor}
use Rattle.std.proofs.lemmas.List.{append-nil, take_all}
use Rattle.diagnostics.specs.Appended.{between, listed, listed_text}
use Rattle.diagnostics.specs.Wording.{hints_text, items, joined, max_told, shown}
use Rattle.diagnostics.proofs.HintLemmas.{texts}

pub first_of : (hints : List (Bor (List ℕ))) (blank : Bor (List ℕ)) (room : ℕ) → 1 ≤ length hints → (room ≡ 0 → ⊥)
    → (shown (get_or hints 0 blank).now ++ between (texts (take (length hints - 1) (drop 1 hints))) (room - 1))
    ++ listed (texts (take (length hints - 1) (drop 1 hints))) (room - 1)
    ≡ listed (texts hints) room
first_of [] blank room some more = absurd (omega (arith, some))
first_of (h ∷ hs) blank zero some more = absurd (more refl)
first_of (h ∷ hs) blank (suc room) some more =
    let left : suc room - 1 ≡ room = omega arith in
    let behind = take_all (length (h ∷ hs) - 1) hs (omega arith) in
    λ i. (shown h.now ++ between (texts (behind i)) (left i)) ++ listed (texts (behind i)) (left i)

pub three_parts : (out first second third a b c all : List ℕ) → first ≡ out ++ a → second ≡ first ++ b
    → third ≡ second ++ c → (a ++ b) ++ c ≡ all → third ≡ out ++ all
three_parts out first second third a b c all first_is second_is third_is all_is =
    third_is ∙ ap (λ (t : List ℕ). t ++ c) (second_is ∙ ap (λ (t : List ℕ). t ++ b) first_is ∙ append_assoc out a b)
    ∙ append_assoc out (a ++ b) c ∙ ap (λ (t : List ℕ). out ++ t) all_is

-- What is appended are the items, joined.
listed_joined : (hints : List (List ℕ)) (room : ℕ) → listed hints room ≡ joined (items room hints)
listed_joined [] zero = refl
listed_joined [] (suc room) = refl
listed_joined (h ∷ hs) zero = refl
listed_joined (h ∷ []) (suc zero) = append-nil (shown h ++ []) ∙ append-nil (shown h)
listed_joined (h ∷ []) (suc (suc room)) = append-nil (shown h ++ []) ∙ append-nil (shown h)
listed_joined (h ∷ next ∷ []) (suc zero) = refl
listed_joined (h ∷ next ∷ third ∷ more) (suc zero) = refl
listed_joined (h ∷ next ∷ []) (suc (suc zero)) =
    ap (λ (t : List ℕ). shown h ++ codes " or " ++ t) (listed_joined (next ∷ []) (suc zero))
listed_joined (h ∷ next ∷ []) (suc (suc (suc room))) =
    ap (λ (t : List ℕ). shown h ++ codes " or " ++ t) (listed_joined (next ∷ []) (suc (suc room)))
listed_joined (h ∷ next ∷ third ∷ more) (suc (suc zero)) =
    ap (λ (t : List ℕ). shown h ++ codes ", " ++ t) (listed_joined (next ∷ third ∷ more) (suc zero))
listed_joined (h ∷ next ∷ third ∷ more) (suc (suc (suc room))) =
    ap (λ (t : List ℕ). shown h ++ codes ", " ++ t) (listed_joined (next ∷ third ∷ more) (suc (suc room)))

pub text_is : (hints : List (List ℕ)) → listed_text hints ≡ hints_text hints
text_is [] = refl
text_is (first ∷ more) = ap (λ (t : List ℕ). codes ": " ++ t) (listed_joined (first ∷ more) max_told)
