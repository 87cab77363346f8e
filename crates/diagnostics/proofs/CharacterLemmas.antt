-- The characters of bytes, one after the other.
use Rattle.std.proofs.Common.{◌≡◌, ◌∙◌, ap, refl, sym, ℕ, zero, suc, ◌+◌, ◌-◌, ◌≤◌, ◌<◌, Bool, true, false, cond}
use Rattle.std.proofs.Common.{List, [], ◌∷◌, length, take, drop, ◌++◌, append_assoc, append-nil, get_or, arith}
use Rattle.std.specs.List.{flat_map, onto_first, prefix_len}
use Rattle.std.proofs.lemmas.List.{take_all, take_more}
use Rattle.std.proofs.lemmas.Grind.{flat_map-append}
use Rattle.std.proofs.Math.Numerals.{one-add}
use Rattle.diagnostics.specs.Characters.{characters, goes_on}

first_by : (b c : ℕ) (cs : List ℕ) (t : Bool) → goes_on c ≡ t
    → characters (c ∷ cs) ≡ (c ∷ take (prefix_len goes_on cs) cs) ∷ characters (drop (prefix_len goes_on cs) cs)
    → characters (b ∷ c ∷ cs)
    ≡ (b ∷ take (prefix_len goes_on (c ∷ cs)) (c ∷ cs)) ∷ characters (drop (prefix_len goes_on (c ∷ cs)) (c ∷ cs))
first_by b c cs true e h =
    let n = prefix_len goes_on cs in
    let parts : ℕ → List (List ℕ) = λ n. (b ∷ take n (c ∷ cs)) ∷ characters (drop n (c ∷ cs)) in
    ap (λ t. cond t (onto_first b (characters (c ∷ cs))) ((b ∷ []) ∷ characters (c ∷ cs))) e
    ∙ ap (onto_first b) h
    ∙ sym (ap parts (ap (λ t. cond t (1 + n) 0) e ∙ one-add n))
first_by b c cs false e h =
    let n = prefix_len goes_on cs in
    let parts : ℕ → List (List ℕ) = λ n. (b ∷ take n (c ∷ cs)) ∷ characters (drop n (c ∷ cs)) in
    ap (λ t. cond t (onto_first b (characters (c ∷ cs))) ((b ∷ []) ∷ characters (c ∷ cs))) e
    ∙ sym (ap parts (ap (λ t. cond t (1 + n) 0) e))

-- the first is a byte with those that go on behind it
pub first_is : (b : ℕ) (bs : List ℕ)
    → characters (b ∷ bs) ≡ (b ∷ take (prefix_len goes_on bs) bs) ∷ characters (drop (prefix_len goes_on bs) bs)
first_is b [] = refl
first_is b (c ∷ cs) = first_by b c cs (goes_on c) refl (first_is c cs)

pub first_at : (bytes others : List ℕ) (n : ℕ) → 1 ≤ length bytes → others ≡ drop 1 bytes
    → n ≡ prefix_len goes_on others
    → characters bytes ≡ take (1 + n) bytes ∷ characters (drop (1 + n) bytes)
first_at [] others n some behind len = absurd (omega arith)
first_at (b ∷ bs) others n some behind len =
    let count : n ≡ prefix_len goes_on bs = len ∙ ap (prefix_len goes_on) behind in
    let parts : ℕ → List (List ℕ) = λ n. take n (b ∷ bs) ∷ characters (drop n (b ∷ bs)) in
    first_is b bs ∙ sym (ap parts (ap (λ k. 1 + k) count ∙ one-add (prefix_len goes_on bs)))

pub behind_first : (bytes : List ℕ) → take (length bytes - 1) (drop 1 bytes) ≡ drop 1 bytes
behind_first [] = refl
behind_first (b ∷ bs) = take_all (length (b ∷ bs) - 1) bs (omega arith)

-- one character less is to come
pub step : (f : List ℕ → List ℕ) (text next due : List ℕ) (left : ℕ) (all : List (List ℕ)) (c : List ℕ)
    (cs : List (List ℕ))
    → 0 < left → all ≡ c ∷ cs → next ≡ text ++ f c → text ++ flat_map f (take left all) ≡ due
    → next ++ flat_map f (take (left - 1) cs) ≡ due
step f text next due zero all c cs some are is h = absurd (omega (arith, some))
step f text next due (suc n) all c cs some are is h =
    let one_less : suc n - 1 ≡ n = omega arith in
    let rest = flat_map f (take n cs) in
    ap (λ k. next ++ flat_map f (take k cs)) one_less
    ∙ ap (λ (t : List ℕ). t ++ rest) is
    ∙ append_assoc text (f c) rest
    ∙ ap (λ (xs : List (List ℕ)). text ++ flat_map f (take (suc n) xs)) (sym are)
    ∙ h

-- one sign more is there
pub one_more_sign : (sign first text next xs : List ℕ) (i : ℕ) → i < length xs
    → text ≡ first ++ flat_map (λ (x : ℕ). sign) (take i xs) → next ≡ text ++ sign
    → next ≡ first ++ flat_map (λ (x : ℕ). sign) (take (i + 1) xs)
one_more_sign sign first text next xs i within h is =
    let signs : List ℕ → List ℕ = flat_map (λ (x : ℕ). sign) in
    let more : signs (take (i + 1) xs) ≡ signs (take i xs) ++ sign =
    ap signs (take_more xs i 0 within) ∙ flat_map-append (λ (x : ℕ). sign) (take i xs) (get_or xs i 0 ∷ [])
    ∙ ap (λ (t : List ℕ). signs (take i xs) ++ t) (append-nil sign) in
    is ∙ ap (λ (t : List ℕ). t ++ sign) h ∙ append_assoc first (signs (take i xs)) sign
    ∙ ap (λ (t : List ℕ). first ++ t) (sym more)
