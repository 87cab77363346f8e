-- What a loop appends for each element, one after another, and two maps as one.
use Rattle.std.proofs.Common.{◌≡◌, ◌∙◌, ℕ, ◌<◌, ◌≤◌, ◌+◌, List, [], ◌∷◌, ◌++◌, length, drop, get_or, ap, sym, map, refl}
use Rattle.std.proofs.Common.{append_assoc}
use Rattle.std.specs.List.{flat_map}
use Rattle.std.proofs.lemmas.List.{append-nil, drop_all, drop_more}

pub flat_more : {X : Type 0} (f : X → List ℕ) (all : List X) (whole now next : List ℕ) (at : ℕ) (x : X)
    → at < length all → x ≡ get_or all at x → now ++ flat_map f (drop at all) ≡ whole → next ≡ now ++ f x
    → next ++ flat_map f (drop (at + 1) all) ≡ whole
flat_more f all whole now next at x within here so is =
    let rest = flat_map f (drop (at + 1) all) in
    ap (λ l. l ++ rest) (is ∙ ap (λ y. now ++ f y) here) ∙ append_assoc now (f (get_or all at x)) rest
    ∙ ap (λ l. now ++ flat_map f l) (sym (drop_more all at x within)) ∙ so

pub flat_done : {X : Type 0} (f : X → List ℕ) (all : List X) (whole now : List ℕ) (at : ℕ) → length all ≤ at
    → now ++ flat_map f (drop at all) ≡ whole → now ≡ whole
flat_done f all whole now at end so =
    sym (append-nil now) ∙ ap (λ l. now ++ flat_map f l) (sym (drop_all at all end)) ∙ so

pub fused : {A B C : Type 0} (g : B → C) (f : A → B) (xs : List A) → map (λ x. g (f x)) xs ≡ map g (map f xs)
fused g f [] = refl
fused g f (x ∷ xs) = ap (λ l. g (f x) ∷ l) (fused g f xs)
