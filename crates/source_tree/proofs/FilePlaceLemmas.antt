-- The files of a tree by their numbers.
use Rattle.std.proofs.Common.{◌≡◌, ◌↔◌, ℕ, ◌+◌, ◌<◌, Bool, true, false, zero, suc, List, [], ◌∷◌, map, length, Some}
use Rattle.std.proofs.Common.{refl, ap, sym, ◌∙◌, arith, length-append}
use Rattle.std.specs.List.{slice_get}
use Rattle.std.specs.Option.{option_map}
use Rattle.std.proofs.lemmas.List.{length-map}
use Rattle.std.proofs.lemmas.Option.{slice_get_within}
use Rattle.std.proofs.lemmas.Bool.{leb-true, leb-false, le-leb, lt-leb}
use lib.Dec.{leb}
use Rattle.source_tree.specs.Files.{SourceFile, TreeFile, in_tree}
use Rattle.source_tree.specs.Trees.{IsSourceCount}
use Rattle.source_tree.specs.Marks.{files_of}

pub length-files : (sources included : List SourceFile)
    → length (files_of sources included) ≡ length sources + length included
length-files sources included =
    omega (
      arith,
      length-append (map (in_tree false) sources) (map (in_tree true) included),
      length-map sources (in_tree false),
      length-map included (in_tree true),
    )

-- a source, and then an included file
pub source_at : (sources included : List SourceFile) (number : ℕ) (file : SourceFile)
    → slice_get sources number ≡ Some file → slice_get (files_of sources included) number ≡ Some (in_tree false file)
source_at [] included number file at = absurd cc
source_at (x ∷ sources) included zero file at = let is : x ≡ file = cc in ap (λ f. Some (in_tree false f)) is
source_at (x ∷ sources) included (suc number) file at = source_at sources included number file at

included_in : (included : List SourceFile) (number : ℕ) (file : SourceFile) → slice_get included number ≡ Some file
    → slice_get (map (in_tree true) included) number ≡ Some (in_tree true file)
included_in [] number file at = absurd cc
included_in (x ∷ included) zero file at = let is : x ≡ file = cc in ap (λ f. Some (in_tree true f)) is
included_in (x ∷ included) (suc number) file at = included_in included number file at

pub included_at : (sources included : List SourceFile) (number : ℕ) (file : SourceFile)
    → slice_get included number ≡ Some file
    → slice_get (files_of sources included) (length sources + number) ≡ Some (in_tree true file)
included_at [] included number file at = rw (none_more number) (included_in included number file at)
  where
    none_more : (n : ℕ) → 0 + n ≡ n
    none_more n = omega arith
included_at (x ∷ sources) included number file at =
    rw (one_more (length sources) number) (included_at sources included number file at)
  where
    one_more : (n m : ℕ) → suc n + m ≡ suc (n + m)
    one_more n m = omega arith

all_included : (included : List SourceFile) (number : ℕ) → number < length included
    → option_map (λ (file : TreeFile). file.is_included) (slice_get (map (in_tree true) included) number) ≡ Some true
all_included [] number within = absurd (omega arith)
all_included (x ∷ included) zero within = refl
all_included (x ∷ included) (suc number) within = all_included included number (omega arith)

pub is_included_at : (sources included : List SourceFile) (number : ℕ) → number < length sources + length included
    → option_map (λ (file : TreeFile). file.is_included) (slice_get (files_of sources included) number)
    ≡ Some (leb (length sources) number)
is_included_at [] included number within =
    all_included included number (omega arith) ∙ ap Some (sym (le-leb 0 number (omega arith)))
is_included_at (x ∷ sources) included zero within = ap Some (sym (lt-leb (suc (length sources)) 0 (omega arith)))
is_included_at (x ∷ sources) included (suc number) within =
    is_included_at sources included number (omega arith) ∙ ap Some (less (leb (length sources) number) refl)
  where
    less : (b : Bool) → leb (length sources) number ≡ b
        → leb (length sources) number ≡ leb (suc (length sources)) (suc number)
    less true e = let h = leb-true (length sources) number e in
        e ∙ sym (le-leb (suc (length sources)) (suc number) (omega arith))
    less false e = let h = leb-false (length sources) number e in
        e ∙ sym (lt-leb (suc (length sources)) (suc number) (omega arith))

-- the number of sources
pub count_of : (sources included : List SourceFile) → IsSourceCount (files_of sources included) (length sources)
count_of sources included = record {
  within = omega (arith, length-files sources included);
  sources = λ number file at. by number file at (slice_get_within (files_of sources included) number file at);
}
  where
    flag : (number : ℕ) (file : TreeFile) → slice_get (files_of sources included) number ≡ Some file
        → number < length (files_of sources included) → file.is_included ≡ leb (length sources) number
    flag number file at within =
        let is : Some file.is_included ≡ Some (leb (length sources) number) =
        sym (ap (option_map (λ (f : TreeFile). f.is_included)) at)
        ∙ is_included_at sources included number (omega (arith, length-files sources included)) in
        cc

    by : (number : ℕ) (file : TreeFile) → slice_get (files_of sources included) number ≡ Some file
        → number < length (files_of sources included) → (number < length sources) ↔ (file.is_included ≡ false)
    by number file at within =
        let is = flag number file at within in (
          λ below. is ∙ lt-leb (length sources) number below,
          λ source. leb-false (length sources) number (sym is ∙ source),
        )
