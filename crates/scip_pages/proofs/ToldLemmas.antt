-- Lines of answers.
use Rattle.std.proofs.Common.{◌≡◌, ℕ, ◌+◌, ◌<◌, ◌≤◌, Bool, true, false, cond, List, [], ◌∷◌, ◌++◌, length, take, map}
use Rattle.std.proofs.Common.{zero, suc, get_or, refl, sym, ◌∙◌, ap, append_assoc, add-one, arith}
use Rattle.scip_query.specs.MoreAnswers.{indent}
use Rattle.std.specs.List.{count_by, flat_map}
use Rattle.std.proofs.lemmas.List.{take_more}
use Rattle.std.proofs.lemmas.List.Sums.{sum_by-append}
use Rattle.scip_pages.specs.Columns.{is_first_byte}
use Rattle.scip_pages.specs.Told.{characters}

-- ---- one byte more

pub few_more : (counted : Bool) (count after at : ℕ) → after ≡ count + cond counted 1 0 → count ≤ at → after ≤ at + 1
few_more true count after at is few = omega (arith, is, few)
few_more false count after at is few = omega (arith, is, few)

pub count_on : (bytes : List ℕ) (at byte count after : ℕ) (first : Bool) → at < length bytes
    → byte ≡ get_or bytes at 0 → first ≡ is_first_byte byte → after ≡ count + cond first 1 0
    → count ≡ characters (take at bytes) → after ≡ characters (take (at + 1) bytes)
count_on bytes at byte count after first inside is is_first put counted =
    let more : take (at + 1) bytes ≡ take at bytes ++ byte ∷ [] =
    take_more bytes at 0 inside ∙ ap (λ x. take at bytes ++ x ∷ []) (sym is) in
    put ∙ ap (λ n. n + cond first 1 0) counted
    ∙ ap (λ t. characters (take at bytes) + cond t 1 0) is_first
    ∙ omega (arith, sum_by-append (λ x. cond (is_first_byte x) 1 0) (take at bytes) (byte ∷ []))
    ∙ ap (count_by is_first_byte) (sym more)

-- ---- what is appended piece by piece

pub in_two : (text a b : List ℕ) → text ++ a ++ b ≡ text ++ (a ++ b)
in_two text a b = append_assoc text a b

-- ---- lists of things, as a view shows them

pub lines_map : {A B : Type 0} (f : B → List ℕ) (v : A → B) (xs : List A)
    → flat_map (λ x. f (v x)) xs ≡ flat_map f (map v xs)
lines_map f v [] = refl
lines_map f v (x ∷ xs) = ap (λ l. f (v x) ++ l) (lines_map f v xs)

-- ---- one level more

indent_more : (depth : ℕ) → indent (suc depth) ≡ indent depth ++ 32 ∷ 32 ∷ []
indent_more zero = refl
indent_more (suc depth) = ap (λ l. 32 ∷ 32 ∷ l) (indent_more depth)

pub indented : (old so_far : List ℕ) (depth : ℕ) → so_far ≡ old ++ indent depth
    → so_far ++ 32 ∷ 32 ∷ [] ≡ old ++ indent (depth + 1)
indented old so_far depth far =
    ap (λ l. l ++ 32 ∷ 32 ∷ []) far ∙ append_assoc old (indent depth) (32 ∷ 32 ∷ [])
    ∙ ap (λ l. old ++ l) (sym (indent_more depth)) ∙ ap (λ n. old ++ indent n) (sym (add-one depth))
