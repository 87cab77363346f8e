-- Lines joined, one more at a time.
use Rattle.std.proofs.Common.{◌≡◌, ◌∙◌, sym, ap, refl, ℕ, ◌+◌, ◌<◌, List, [], ◌∷◌, ◌++◌, length, get_or, take, append_assoc}
use Rattle.std.specs.List.{join_with_byte}
use Rattle.std.proofs.lemmas.List.{take_more}

-- one text more
pub join_with_byte-push : (c : ℕ) (first x : List ℕ) (others : List (List ℕ))
    → join_with_byte c (first ∷ (others ++ x ∷ [])) ≡ join_with_byte c (first ∷ others) ++ (c ∷ x)
join_with_byte-push c first x [] = refl
join_with_byte-push c first x (next ∷ others) =
    ap (λ t. first ++ (c ∷ t)) (join_with_byte-push c next x others)
    ∙ sym (append_assoc first (c ∷ join_with_byte c (next ∷ others)) (c ∷ x))

-- a loop's step: a separator and the next line
pub joined_more : (c : ℕ) (first x : List ℕ) (others : List (List ℕ)) (i : ℕ) (d : List ℕ) (old new : List ℕ)
    → i < length others → get_or others i d ≡ x → old ≡ join_with_byte c (first ∷ take i others)
    → new ≡ old ++ c ∷ x → new ≡ join_with_byte c (first ∷ take (i + 1) others)
joined_more c first x others i d old new h at so_far pushed =
    let more : take (i + 1) others ≡ take i others ++ x ∷ [] =
    take_more others i d h ∙ ap (λ y. take i others ++ y ∷ []) at in
    pushed ∙ (ap (λ t. t ++ c ∷ x) so_far
    ∙ (sym (join_with_byte-push c first x (take i others)) ∙ ap (λ ts. join_with_byte c (first ∷ ts)) (sym more)))
