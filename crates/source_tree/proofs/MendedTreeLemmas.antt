-- The tree in which files are mended: the same files in the same order, of which another text may be read.
use Rattle.std.proofs.Common.{◌≡◌, ◌∙◌, refl, ap, sym, subst, ℕ, suc, zero, ◌+◌, ◌<◌, ◌≤◌, ◌↔◌, ◌⊎◌, inl, inr, List, [], ◌∷◌, ◌++◌, Some, map, length, arith, append_assoc}
use Rattle.std.specs.Prelude.{Option, None, Bool, true, false, take, slice_index_or}
use Rattle.std.specs.List.{All, AllByRecursion, AllZip, slice_get}
use Rattle.std.specs.List.Sorted.{IsStrictlySortedBy}
use Rattle.std.specs.Option.{option_map}
use Rattle.std.specs.declared.cmp.Ordering.TheVariants.{Less}
use Rattle.std.specs.Ordering.{nat_cmp, bool_cmp, ordering_then}
use Rattle.std.specs.Cmp.Lexicographic.{slice_cmp}
use Rattle.std.proofs.lemmas.List.{take_more}
use Rattle.basics.proofs.ListLemmas.{zip_push}
use Rattle.std.proofs.lemmas.List.Elements.{All-cons, All-head, All-tail, length_all_zip}
use Rattle.source_tree.specs.Files.{SourceFile, TreeFile, in_tree, file_cmp}
use Rattle.source_tree.specs.Path.{IsGoodPath}
use Rattle.source_tree.specs.Trees.{HaveOwnPaths, IsTree, IsSourceCount}
use Rattle.source_tree.specs.Mending.{IsMended, IsMendedFile, AreMended}
use Rattle.source_tree.specs.Marks.{files_of, text_or, with_texts, AreTexts}

-- ---- the files of texts

abbrev IsTextOf : TreeFile → Option (List ℕ) → Type 0
IsTextOf file text = IsMended file.bytes (text_or text file.bytes)

-- what is read of one file more
pub texts_push : (before files : List SourceFile) (texts new : List (Option (List ℕ))) (count : ℕ) (file : SourceFile)
    → count < length files → file ≡ slice_index_or files count file → AreTexts (before ++ take count files) texts
    → (text : Option (List ℕ)) × (new ≡ texts ++ text ∷ []) × IsMended file.bytes (text_or text file.bytes)
    → AreTexts (before ++ take (count + 1) files) new
texts_push before files texts new count file within at are (text, pushed, is) =
    let Text : SourceFile → Option (List ℕ) → Type 0 = λ file text. IsMended file.bytes (text_or text file.bytes) in
    let more : take (count + 1) files ≡ take count files ++ file ∷ [] =
    take_more files count file within ∙ ap (λ f. take count files ++ f ∷ []) (sym at) in
    subst (AreTexts (before ++ take (count + 1) files)) (sym pushed)
    (subst (λ l. AreTexts l (texts ++ text ∷ []))
    (append_assoc before (take count files) (file ∷ []) ∙ ap (λ l. before ++ l) (sym more))
    (zip_push Text (before ++ take count files) texts file text are is))

-- what is read of the sources, and then of the included files
pub texts_of_both : (sources included first second : List SourceFile) (none some all : List (Option (List ℕ)))
    → none ≡ [] → first ≡ sources → second ≡ included
    → ((before : List SourceFile) → AreTexts before none → AreTexts (before ++ first) some)
    → ((before : List SourceFile) → AreTexts before some → AreTexts (before ++ second) all)
    → AreTexts (sources ++ included) all
texts_of_both sources included first second none some all nothing is_first is_second add add_more =
    subst (λ files. AreTexts (files ++ included) all) is_first
    (subst (λ files. AreTexts (first ++ files) all) is_second
    (add_more first (add [] (subst (AreTexts []) (sym nothing) tt))))

in_files : (flag : Bool) (files : List SourceFile) (texts : List (Option (List ℕ))) → AreTexts files texts
    → AllZip IsTextOf (map (in_tree flag) files) texts
in_files flag [] [] are = tt
in_files flag [] (t ∷ ts) are = absurd are
in_files flag (f ∷ fs) [] are = absurd are
in_files flag (f ∷ fs) (t ∷ ts) are = (are.0, in_files flag fs ts are.1)

in_both : (sources included : List SourceFile) (texts : List (Option (List ℕ))) → AreTexts (sources ++ included) texts
    → AllZip IsTextOf (files_of sources included) texts
in_both [] included texts are = in_files true included texts are
in_both (f ∷ sources) included [] are = absurd are
in_both (f ∷ sources) included (t ∷ texts) are = (are.0, in_both sources included texts are.1)

mended_by : (old texts : List (Option (List ℕ))) (files : List TreeFile) → AllZip IsTextOf files texts
    → AreMended (with_texts old files) (with_texts texts files)
mended_by [] [] [] are = tt
mended_by (o ∷ old) [] [] are = tt
mended_by old (t ∷ texts) [] are = absurd are
mended_by old [] (f ∷ files) are = absurd are
mended_by [] (t ∷ texts) (f ∷ files) are = (
  record { path = refl; bytes = refl; text = are.0; is_included = refl; is_unread = refl },
  mended_by [] texts files are.1,
)
mended_by (o ∷ old) (t ∷ texts) (f ∷ files) are = (
  record { path = refl; bytes = refl; text = are.0; is_included = refl; is_unread = refl },
  mended_by old texts files are.1,
)

mended_files : (old texts : List (Option (List ℕ))) (sources included : List SourceFile)
    → AreTexts (sources ++ included) texts
    → AreMended (with_texts old (files_of sources included)) (with_texts texts (files_of sources included))
mended_files old texts sources included are =
    mended_by old texts (files_of sources included) (in_both sources included texts are)

pub mended_view : (files : List TreeFile) (old texts : List (Option (List ℕ))) (sources included : List SourceFile)
    → with_texts old (files_of sources included) ≡ files → AreTexts (sources ++ included) texts
    → AreMended files (with_texts texts (files_of sources included))
mended_view files old texts sources included view are =
    subst (λ l. AreMended l (with_texts texts (files_of sources included))) view
    (mended_files old texts sources included are)

-- ---- what doesn't depend on texts

pub length-with_texts : (texts : List (Option (List ℕ))) (files : List TreeFile)
    → length (with_texts texts files) ≡ length files
length-with_texts [] files = refl
length-with_texts (t ∷ texts) [] = refl
length-with_texts (t ∷ texts) (f ∷ files) = ap suc (length-with_texts texts files)

-- what a file has besides its text is the same
pub same_at : {X : Type 0} (part : TreeFile → X)
    → ((text : Option (List ℕ)) (file : TreeFile) → part (record file { text = text_or text file.bytes }) ≡ part file)
    → (texts : List (Option (List ℕ))) (files : List TreeFile) (number : ℕ)
    → option_map part (slice_get (with_texts texts files) number) ≡ option_map part (slice_get files number)
same_at part same [] files number = refl
same_at part same (t ∷ texts) [] number = refl
same_at part same (t ∷ texts) (f ∷ files) zero = ap Some (same t f)
same_at part same (t ∷ texts) (f ∷ files) (suc number) = same_at part same texts files number

-- what is read of a file: what is kept for it, and else what it holds
pub text_kept : (texts : List (Option (List ℕ))) (files : List TreeFile) (number : ℕ) (text : List ℕ)
    → slice_get texts number ≡ Some (Some text) → number < length files
    → option_map (λ (file : TreeFile). file.text) (slice_get (with_texts texts files) number) ≡ Some text
text_kept [] files number text at within = absurd cc
text_kept (t ∷ texts) [] number text at within = absurd (omega arith)
text_kept (t ∷ texts) (f ∷ files) zero text at within =
    let is : t ≡ Some text = cc in ap (λ o. Some (text_or o f.bytes)) is
text_kept (t ∷ texts) (f ∷ files) (suc number) text at within = text_kept texts files number text at (omega arith)

-- what each file holds is read
abbrev ArePlain : List TreeFile → Type 0
ArePlain files = (number : ℕ) → option_map (λ (file : TreeFile). file.text) (slice_get files number)
    ≡ option_map (λ (file : TreeFile). file.bytes) (slice_get files number)

plain_in : (flag : Bool) (files : List SourceFile) → ArePlain (map (in_tree flag) files)
plain_in flag [] number = refl
plain_in flag (f ∷ files) zero = refl
plain_in flag (f ∷ files) (suc number) = plain_in flag files number

plain_files : (sources included : List SourceFile) → ArePlain (files_of sources included)
plain_files [] included number = plain_in true included number
plain_files (f ∷ sources) included zero = refl
plain_files (f ∷ sources) included (suc number) = plain_files sources included number

held_by : (texts : List (Option (List ℕ))) (files : List TreeFile) (number : ℕ) → ArePlain files
    → (slice_get texts number ≡ None) ⊎ (slice_get texts number ≡ Some None)
    → option_map (λ (file : TreeFile). file.text) (slice_get (with_texts texts files) number)
    ≡ option_map (λ (file : TreeFile). file.bytes) (slice_get files number)
held_by [] files number plain none = plain number
held_by (t ∷ texts) [] number plain none = refl
held_by (t ∷ texts) (f ∷ files) zero plain (inl none) = absurd cc
held_by (t ∷ texts) (f ∷ files) zero plain (inr none) =
    let is : t ≡ None = cc in ap (λ o. Some (text_or o f.bytes)) is
held_by (t ∷ texts) (f ∷ files) (suc number) plain none =
    held_by texts files number (λ k. plain (suc k)) none

pub text_held : (texts : List (Option (List ℕ))) (sources included : List SourceFile) (number : ℕ)
    → (slice_get texts number ≡ None) ⊎ (slice_get texts number ≡ Some None)
    → option_map (λ (file : TreeFile). file.text) (slice_get (with_texts texts (files_of sources included)) number)
    ≡ option_map (λ (file : TreeFile). file.bytes) (slice_get (files_of sources included) number)
text_held texts sources included number none =
    held_by texts (files_of sources included) number (plain_files sources included) none

pub file_at : (texts : List (Option (List ℕ))) (files : List TreeFile) (number : ℕ) (file : TreeFile)
    → slice_get (with_texts texts files) number ≡ Some file
    → (other : TreeFile) × (slice_get files number ≡ Some other) × (other.is_included ≡ file.is_included)
file_at [] files number file at = (file, at, refl)
file_at (t ∷ texts) [] number file at = absurd cc
file_at (t ∷ texts) (f ∷ files) zero file at =
    (f, refl, let is : record f { text = text_or t f.bytes } ≡ file = cc in ap (λ (x : TreeFile). x.is_included) is)
file_at (t ∷ texts) (f ∷ files) (suc number) file at = file_at texts files number file at

pub source_count_with : (texts : List (Option (List ℕ))) (files : List TreeFile) (count : ℕ) → IsSourceCount files count
    → IsSourceCount (with_texts texts files) count
source_count_with texts files count is = record {
  within = subst (λ n. count ≤ n) (sym (length-with_texts texts files)) is.within;
  sources = λ number file at.
      let other = file_at texts files number file at in
      subst (λ flag. (number < count) ↔ (flag ≡ false)) other.2 (is.sources number other.0 other.1);
}

-- ---- a tree

good_mended : (files mended : List TreeFile) → AreMended files mended
    → All (λ (file : TreeFile). IsGoodPath file.path) files → All (λ (file : TreeFile). IsGoodPath file.path) mended
good_mended [] [] are good = good
good_mended [] (m ∷ mended) are good = absurd are
good_mended (f ∷ files) [] are good = absurd are
good_mended (f ∷ files) (m ∷ mended) are good =
    All-cons (λ (file : TreeFile). IsGoodPath file.path) m mended
    (subst IsGoodPath (sym are.0.path) (All-head (λ (file : TreeFile). IsGoodPath file.path) f files good))
    (good_mended files mended are.1 (All-tail (λ (file : TreeFile). IsGoodPath file.path) f files good))

before_at : (files mended : List TreeFile) → AreMended files mended → (number : ℕ) (file : TreeFile)
    → slice_get mended number ≡ Some file
    → (other : TreeFile) × (slice_get files number ≡ Some other) × (file.path ≡ other.path)
before_at [] [] are number file at = absurd cc
before_at [] (m ∷ mended) are number file at = absurd are
before_at (f ∷ files) [] are number file at = absurd are
before_at (f ∷ files) (m ∷ mended) are zero file at =
    (f, refl, let is : m ≡ file = cc in ap (λ (x : TreeFile). x.path) (sym is) ∙ are.0.path)
before_at (f ∷ files) (m ∷ mended) are (suc number) file at = before_at files mended are.1 number file at

own_mended : (files mended : List TreeFile) → AreMended files mended → HaveOwnPaths files → HaveOwnPaths mended
own_mended files mended are own i j a b at_a at_b same =
    let first = before_at files mended are i a at_a in
    let second = before_at files mended are j b at_b in
    own i j first.0 second.0 first.1 second.1 (sym first.2 ∙ (same ∙ second.2))

same_cmp : (a b m n : TreeFile) → IsMendedFile a m → IsMendedFile b n → file_cmp m n ≡ file_cmp a b
same_cmp a b m n first second =
    ap (λ i. ordering_then (bool_cmp i n.is_included) (slice_cmp nat_cmp m.path n.path)) first.is_included
    ∙ (ap (λ i. ordering_then (bool_cmp a.is_included i) (slice_cmp nat_cmp m.path n.path)) second.is_included
    ∙ (ap (λ p. ordering_then (bool_cmp a.is_included b.is_included) (slice_cmp nat_cmp p n.path)) first.path
    ∙ ap (λ p. ordering_then (bool_cmp a.is_included b.is_included) (slice_cmp nat_cmp a.path p)) second.path))

below_mended : (a m : TreeFile) → IsMendedFile a m → (files mended : List TreeFile) → AreMended files mended
    → AllByRecursion (λ y. file_cmp a y ≡ Less) files → AllByRecursion (λ y. file_cmp m y ≡ Less) mended
below_mended a m is [] [] are below = tt
below_mended a m is [] (n ∷ mended) are below = absurd are
below_mended a m is (b ∷ files) [] are below = absurd are
below_mended a m is (b ∷ files) (n ∷ mended) are below =
    (same_cmp a b m n is are.0 ∙ below.0, below_mended a m is files mended are.1 below.1)

rising_mended : (files mended : List TreeFile) → AreMended files mended → IsStrictlySortedBy file_cmp files
    → IsStrictlySortedBy file_cmp mended
unfolding IsStrictlySortedBy
rising_mended [] [] are rising = tt
rising_mended [] (m ∷ mended) are rising = absurd are
rising_mended (f ∷ files) [] are rising = absurd are
rising_mended (f ∷ files) (m ∷ mended) are rising =
    (below_mended f m are.0 files mended are.1 rising.0, rising_mended files mended are.1 rising.1)

length_mended : (files mended : List TreeFile) → AreMended files mended → length files ≡ length mended
length_mended = length_all_zip IsMendedFile

pub mended_tree : (files mended : List TreeFile) → AreMended files mended → IsTree files → IsTree mended
mended_tree files mended are tree = record {
  few = omega (arith, tree.few, length_mended files mended are);
  good = good_mended files mended are tree.good;
  own = own_mended files mended are tree.own;
  rising = rising_mended files mended are tree.rising;
}
