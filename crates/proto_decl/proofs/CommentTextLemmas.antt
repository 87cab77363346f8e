-- The texts of several comments.
use Rattle.std.proofs.Common.{◌≡◌, ◌∙◌, sym, ap, refl, ℕ, ◌+◌, ◌<◌, List, [], ◌∷◌, ◌++◌, length, get_or}
use Rattle.std.proofs.Common.{take, map, append_assoc}
use Rattle.std.specs.List.{join_with_byte}
use Rattle.std.proofs.lemmas.List.{take_more, map-append}

-- one text more
pub join_with_byte-push : (c : ℕ) (first x : List ℕ) (others : List (List ℕ))
    → join_with_byte c (first ∷ (others ++ x ∷ [])) ≡ join_with_byte c (first ∷ others) ++ (c ∷ x)
join_with_byte-push c first x [] = refl
join_with_byte-push c first x (next ∷ others) =
    ap (λ t. first ++ (c ∷ t)) (join_with_byte-push c next x others)
    ∙ sym (append_assoc first (c ∷ join_with_byte c (next ∷ others)) (c ∷ x))

-- a loop's step: a separator and the next text
pub joined_more : {X : Type 0} (c : ℕ) (f : X → List ℕ) (first x : X) (others : List X) (i : ℕ) (d : X)
    (old new : List ℕ) → i < length others → get_or others i d ≡ x
    → old ≡ join_with_byte c (map f (first ∷ take i others)) → new ≡ (old ++ c ∷ []) ++ f x
    → new ≡ join_with_byte c (map f (first ∷ take (i + 1) others))
joined_more c f first x others i d old new h at so_far pushed =
    let more : map f (take (i + 1) others) ≡ map f (take i others) ++ f x ∷ [] =
    ap (map f) (take_more others i d h)
    ∙ (map-append f (take i others) (get_or others i d ∷ []) ∙ ap (λ y. map f (take i others) ++ f y ∷ []) at) in
    pushed ∙ (append_assoc old (c ∷ []) (f x)
    ∙ (ap (λ t. t ++ (c ∷ f x)) so_far
    ∙ (sym (join_with_byte-push c (f first) (f x) (map f (take i others)))
    ∙ ap (λ ts. join_with_byte c (f first ∷ ts)) (sym more))))
