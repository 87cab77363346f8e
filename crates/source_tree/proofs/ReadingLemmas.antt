-- Lemmas on what is kept of a source.
use Rattle.std.proofs.Common.{◌≡◌, ℕ, zero, suc, ◌+◌, ◌≤◌, List, [], ◌∷◌, ◌++◌, length, take, refl, ap, sym, ◌∙◌, arith}
use Rattle.std.proofs.lemmas.List.{take_all, length-append, length-take}
use Rattle.std.proofs.Math.Seq.{take-append-add}
use Rattle.source_tree.specs.Reading.{kept_bytes, max_kept_length}

pub kept_bytes-fits : (xs ys : List ℕ) → length xs + length ys ≤ max_kept_length → kept_bytes (xs ++ ys) ≡ xs ++ ys
kept_bytes-fits xs ys fits = take_all max_kept_length (xs ++ ys) (omega (arith, length-append xs ys))

pub kept_bytes-cut : (xs ys : List ℕ) (n : ℕ) → length xs + n ≡ max_kept_length
    → kept_bytes (xs ++ ys) ≡ xs ++ take n ys
kept_bytes-cut xs ys n e = ap (λ k. take k (xs ++ ys)) (sym e) ∙ take-append-add xs ys n

take-take-append : (n : ℕ) (xs ys : List ℕ) → take n (take n xs ++ ys) ≡ take n (xs ++ ys)
take-take-append zero xs ys = refl
take-take-append (suc n) [] ys = refl
take-take-append (suc n) (x ∷ xs) ys = ap (λ l. x ∷ l) (take-take-append n xs ys)

-- what is kept of more, where what came before was kept
pub kept_bytes-more : (given part kept_before : List ℕ) → kept_before ≡ kept_bytes given
    → kept_bytes (kept_before ++ part) ≡ kept_bytes (given ++ part)
kept_bytes-more given part kept_before e = rw e (take-take-append max_kept_length given part)

pub kept_bytes-few : (bytes : List ℕ) → length (kept_bytes bytes) ≤ max_kept_length
kept_bytes-few bytes = omega (arith, length-take max_kept_length bytes)
