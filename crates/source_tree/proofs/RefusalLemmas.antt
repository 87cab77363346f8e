-- The first bad path and the first repeated one, as the code finds them.
use Rattle.std.proofs.Common.{◌≡◌, inl, inr, ℕ, ◌+◌, ◌<◌, ◌≤◌, zero, suc, List, [], ◌∷◌, ◌++◌, length, take, get_or}
use Rattle.std.proofs.Common.{Some, refl, ap, sym, ◌∙◌, subst, arith}
use Rattle.std.specs.List.{slice_get}
use Rattle.std.specs.List.Sorted.{IsSorted}
use Rattle.std.proofs.lemmas.Bool.{cases_lt}
use Rattle.std.proofs.lemmas.Option.{slice_get_read, slice_get_within}
use Rattle.std.proofs.lemmas.List.Elements.{All-append}
use Rattle.source_tree.specs.Path.{IsGoodPath}
use Rattle.source_tree.specs.Files.{SourceFile, path_cmp, RepeatsAPath}
use Rattle.source_tree.specs.Trees.{HaveGoodPaths}
use Rattle.source_tree.specs.Refusals.{IsFirstBad, IsFirstRepeat}
use Rattle.source_tree.proofs.PathLemmas.{repeats_from, repeats_next, repeats_within}

-- ---- bad paths

at_front : (xs ys : List SourceFile) (number : ℕ) (file : SourceFile) → slice_get xs number ≡ Some file
    → slice_get (xs ++ ys) number ≡ Some file
at_front [] ys number file at = absurd cc
at_front (x ∷ xs) ys zero file at = at
at_front (x ∷ xs) ys (suc number) file at = at_front xs ys number file at

at_back : (xs ys : List SourceFile) (number : ℕ) (file : SourceFile) → slice_get ys number ≡ Some file
    → slice_get (xs ++ ys) (length xs + number) ≡ Some file
at_back [] ys number file at = rw (none_more number) at
  where
    none_more : (n : ℕ) → 0 + n ≡ n
    none_more n = omega arith
at_back (x ∷ xs) ys number file at = rw (one_more (length xs) number) (at_back xs ys number file at)
  where
    one_more : (n m : ℕ) → suc n + m ≡ suc (n + m)
    one_more n m = omega arith

take_front : (xs ys : List SourceFile) (count : ℕ) → count ≤ length xs → take count (xs ++ ys) ≡ take count xs
take_front [] ys zero h = refl
take_front [] ys (suc count) h = absurd (omega arith)
take_front (x ∷ xs) ys zero h = refl
take_front (x ∷ xs) ys (suc count) h = ap (λ l. x ∷ l) (take_front xs ys count (omega arith))

take_back : (xs ys : List SourceFile) (count : ℕ) → take (length xs + count) (xs ++ ys) ≡ xs ++ take count ys
take_back [] ys count = ap (λ n. take n ys) (none_more count)
  where
    none_more : (n : ℕ) → 0 + n ≡ n
    none_more n = omega arith
take_back (x ∷ xs) ys count =
    ap (λ n. take n (x ∷ (xs ++ ys))) (one_more (length xs) count) ∙ ap (λ l. x ∷ l) (take_back xs ys count)
  where
    one_more : (n m : ℕ) → suc n + m ≡ suc (n + m)
    one_more n m = omega arith

-- the first bad path of the first list is that of both
pub bad_in_front : (xs ys : List SourceFile) (number : ℕ) → IsFirstBad xs number → IsFirstBad (xs ++ ys) number
bad_in_front xs ys number it = record {
  file = it.file;
  numbered = at_front xs ys number it.file it.numbered;
  bad = it.bad;
  least = subst HaveGoodPaths
      (sym (take_front xs ys number (let within = slice_get_within xs number it.file it.numbered in omega arith)))
      it.least;
}

-- where the first list has none, the first of the second list
pub bad_behind : (xs ys : List SourceFile) (number : ℕ) → HaveGoodPaths xs → IsFirstBad ys number
    → IsFirstBad (xs ++ ys) (length xs + number)
bad_behind xs ys number good it = record {
  file = it.file;
  numbered = at_back xs ys number it.file it.numbered;
  bad = it.bad;
  least = subst HaveGoodPaths (sym (take_back xs ys number))
      (All-append (λ file. IsGoodPath file.path) xs (take number ys) good it.least);
}

-- ---- repeated paths

-- a file has the path of the one before it, and none before it repeats a path
pub repeat_here : (files : List SourceFile) (number earlier : ℕ) (a b : SourceFile) → earlier + 1 ≡ number
    → number < length files → a ≡ get_or files earlier a → b ≡ get_or files number b → a.path ≡ b.path
    → ((k : ℕ) → k < number → RepeatsAPath files k → ⊥) → IsFirstRepeat files number
repeat_here files number earlier a b next within is_a is_b same none = record {
  repeats = subst (RepeatsAPath files) next
      (repeats_from files earlier a b (slice_get_read files (length files) earlier a refl (omega arith) is_a)
      (subst (λ n. slice_get files n ≡ Some b) (sym next)
      (slice_get_read files (length files) number b refl within is_b)) same);
  least = none;
}

-- no file repeats a path, up to one that doesn't have the path of the one before it
pub none_more : (files : List SourceFile) → IsSorted path_cmp files → (number earlier : ℕ) (a b : SourceFile)
    → earlier + 1 ≡ number → number < length files → a ≡ get_or files earlier a → b ≡ get_or files number b
    → (a.path ≡ b.path → ⊥) → ((k : ℕ) → k < number → RepeatsAPath files k → ⊥) → (k : ℕ) → k < number + 1
    → RepeatsAPath files k → ⊥
none_more files up number earlier a b next within is_a is_b apart none k below again = elim (cases_lt k number) [
  | inl lesser ↦ none k lesser again
  | inr rest ↦ apart (repeats_next files up earlier a b
      (slice_get_read files (length files) earlier a refl (omega arith) is_a)
      (subst (λ n. slice_get files n ≡ Some b) (sym next)
      (slice_get_read files (length files) number b refl within is_b))
      (subst (RepeatsAPath files) (here rest) again))
]
  where
    here : number ≤ k → k ≡ earlier + 1
    here rest = omega arith

-- none of all the files does
pub none_of_all : (files : List SourceFile) (number : ℕ) → length files ≤ number
    → ((k : ℕ) → k < number → RepeatsAPath files k → ⊥) → (k : ℕ) → RepeatsAPath files k → ⊥
none_of_all files number whole none k again = none k (let within = repeats_within files k again in omega arith) again
