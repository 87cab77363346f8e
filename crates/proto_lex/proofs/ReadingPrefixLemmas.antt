use Rattle.std.proofs.Common.{◌≡◌, ℕ, suc, ◌+◌, Bool, true, false, cond, List, [], ◌∷◌, ◌++◌, length, take, drop, refl}
use Rattle.std.proofs.Common.{◌∙◌, arith, add-one}
use Rattle.std.specs.List.{list_all, prefix_len}
use Rattle.proto_lex.specs.Bytes.{starts}
use Rattle.proto_lex.specs.Reading.{past}
use Rattle.proto_lex.proofs.ReadingTestLemmas.{both}

-- The bytes at the front that pass a test, and those after them.

-- adding to a front is a step of it
pub one_add : (n : ℕ) → 1 + n ≡ n + 1
one_add n = omega arith

pub one_more : (n : ℕ) → 1 + n ≡ suc n
one_more n = omega arith

pub prefix_passes : (p : ℕ → Bool) (bytes : List ℕ) → list_all p (take (prefix_len p bytes) bytes) ≡ true
prefix_passes p [] = refl
prefix_passes p (b ∷ others) =
    elim (p b) as (λ t. p b ≡ t → list_all p (take (cond t (1 + prefix_len p others) 0) (b ∷ others)) ≡ true) [
      | true ↦ λ e. rw (one_add (prefix_len p others), add-one, e) (prefix_passes p others)
      | false ↦ λ e. refl
    ] refl

pub prefix_stops : (p : ℕ → Bool) (bytes : List ℕ) → starts p (drop (prefix_len p bytes) bytes) ≡ false
prefix_stops p [] = refl
prefix_stops p (b ∷ others) =
    elim (p b) as (λ t. p b ≡ t → starts p (drop (cond t (1 + prefix_len p others) 0) (b ∷ others)) ≡ false) [
      | true ↦ λ e. rw (one_add (prefix_len p others), add-one) (prefix_stops p others)
      | false ↦ λ e. e
    ] refl

pub prefix_exact : (p : ℕ → Bool) (word rest : List ℕ) → list_all p word ≡ true → starts p rest ≡ false
    → prefix_len p (word ++ rest) ≡ length word
prefix_exact p [] [] h s = refl
prefix_exact p [] (c ∷ rest) h s = rw s refl
prefix_exact p (b ∷ word) rest h s =
    both (p b) _ h (λ t ts. rw (t, prefix_exact p word rest ts s) (omega arith))

pub past-cons : (p : ℕ → Bool) (b : ℕ) (others : List ℕ) → p b ≡ true → past p (b ∷ others) ≡ past p others
past-cons p b others e = rw (e, one_add (prefix_len p others), add-one) refl

pub past-stop : (p : ℕ → Bool) (bytes : List ℕ) → starts p bytes ≡ false → past p bytes ≡ bytes
past-stop p [] e = refl
past-stop p (b ∷ others) e = rw e refl

pub past-all : (p : ℕ → Bool) (bytes : List ℕ) → list_all p bytes ≡ true → past p bytes ≡ []
past-all p [] h = refl
past-all p (b ∷ others) h = both (p b) _ h (λ t ts. past-cons p b others t ∙ past-all p others ts)
