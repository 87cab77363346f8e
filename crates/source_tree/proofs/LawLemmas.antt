-- The laws: one tree, and one fault.
use Rattle.std.proofs.Common.{◌≡◌, inl, inr, ℕ, ◌<◌, zero, suc, List, [], ◌∷◌, ◌++◌, take, Some, refl, ap, subst, arith}
use Rattle.std.specs.List.{All, slice_get}
use Rattle.std.proofs.lemmas.Bool.{cases_order}
use Rattle.std.proofs.lemmas.Slice.Eq.{bytes_eq-Decides}
use Rattle.std.proofs.lemmas.Option.{slice_get_within, get_or_from_slice_get}
use Rattle.std.proofs.lemmas.Map.Made.{IsDistinct-from_AllPairs}
use Rattle.std.proofs.lemmas.List.Elements.{All-head, All-tail}
use Rattle.source_tree.specs.Path.{IsGoodPath}
use Rattle.source_tree.specs.declared.fault.TreeFault.TheVariants.{TooMany, BadPath, SamePath, Memory}
use Rattle.source_tree.specs.Files.{SourceFile, paths_of}
use Rattle.source_tree.specs.Trees.{HaveGoodPaths}
use Rattle.source_tree.specs.Refusals.{IsFirstBad, IsFirstRepeat, HaveSamePath}
use Rattle.source_tree.specs.Laws.{OneTree, OneSortingByPath, RefusalsExcludeEachOther, TreesAreNotRefused}
use Rattle.basics.proofs.StrictOrderLemmas.{rising_one}
use Rattle.source_tree.proofs.PathLemmas.{one_sorting, distinct_permutation, distinct_none}
use Rattle.source_tree.proofs.TreeLemmas.{files_total}

pub the_one_tree : OneTree
the_one_tree sources included files others p q =
    rising_one files_total files others p.rising q.rising (λ z there. (q.whole z).1 ((p.whole z).0 there))
    (λ z there. (p.whole z).1 ((q.whole z).0 there))

pub the_one_sorting : OneSortingByPath
the_one_sorting = one_sorting

-- ---- the least number

in_take : (P : SourceFile → Type 0) (files : List SourceFile) (count number : ℕ) (file : SourceFile)
    → All P (take count files) → number < count → slice_get files number ≡ Some file → P file
in_take P [] count number file each below at = absurd cc
in_take P (x ∷ files) zero number file each below at = absurd (omega arith)
in_take P (x ∷ files) (suc count) zero file each below at = let is : x ≡ file = cc in
    subst P is (All-head P x (take count files) each)
in_take P (x ∷ files) (suc count) (suc number) file each below at =
    in_take P files count number file (All-tail P x (take count files) each) (omega arith) at

bad_below : (files : List SourceFile) (number other : ℕ) → IsFirstBad files number → IsFirstBad files other
    → number < other → ⊥
bad_below files number other p q below =
    p.bad (in_take (λ file. IsGoodPath file.path) files other number p.file q.least below p.numbered)

one_bad : (files : List SourceFile) (number other : ℕ) → IsFirstBad files number → IsFirstBad files other
    → number ≡ other
one_bad files number other p q = elim (cases_order number other) [
  | inl same ↦ same
  | inr differ ↦ elim differ [
    | inl below ↦ absurd (bad_below files number other p q below)
    | inr above ↦ absurd (bad_below files other number q p above)
  ]
]

one_repeat : (files : List SourceFile) (number other : ℕ) → IsFirstRepeat files number → IsFirstRepeat files other
    → number ≡ other
one_repeat files number other p q = elim (cases_order number other) [
  | inl same ↦ same
  | inr differ ↦ elim differ [
    | inl below ↦ absurd (q.least number below p.repeats)
    | inr above ↦ absurd (p.least other above q.repeats)
  ]
]

one_same : (sources included : List SourceFile) (number other : ℕ) → HaveSamePath sources included number
    → HaveSamePath sources included other → number ≡ other
one_same sources included number other p q =
    one_repeat q.sorted number other
    (subst (λ l. IsFirstRepeat l number) (one_sorting sources p.sorted q.sorted p.by_path q.by_path) p.first)
    q.first

good_no_bad : (files : List SourceFile) (number : ℕ) → HaveGoodPaths files → IsFirstBad files number → ⊥
good_no_bad files number good it =
    it.bad (subst (λ (file : SourceFile). IsGoodPath file.path)
    (get_or_from_slice_get files number it.file it.file it.numbered)
    (good number it.file (slice_get_within files number it.file it.numbered)))

-- ---- the laws on faults

pub refusals_exclude : RefusalsExcludeEachOther
refusals_exclude sources included TooMany TooMany p q = inl refl
refusals_exclude sources included TooMany (BadPath n) p q = absurd (let few = q.few in omega arith)
refusals_exclude sources included TooMany (SamePath n) p q = absurd (let few = q.few in omega arith)
refusals_exclude sources included TooMany Memory p q = inr (inr refl)
refusals_exclude sources included (BadPath n) TooMany p q = absurd (let few = p.few in omega arith)
refusals_exclude sources included (BadPath n) (BadPath m) p q =
    inl (ap BadPath (one_bad (sources ++ included) n m p.first q.first))
refusals_exclude sources included (BadPath n) (SamePath m) p q =
    absurd (good_no_bad (sources ++ included) n q.good p.first)
refusals_exclude sources included (BadPath n) Memory p q = inr (inr refl)
refusals_exclude sources included (SamePath n) TooMany p q = absurd (let few = p.few in omega arith)
refusals_exclude sources included (SamePath n) (BadPath m) p q =
    absurd (good_no_bad (sources ++ included) m p.good q.first)
refusals_exclude sources included (SamePath n) (SamePath m) p q = inl (ap SamePath (one_same sources included n m p q))
refusals_exclude sources included (SamePath n) Memory p q = inr (inr refl)
refusals_exclude sources included Memory other p q = inr (inl refl)

pub trees_not_refused : TreesAreNotRefused
trees_not_refused sources included files TooMany it fault = absurd (let few = it.few in omega arith)
trees_not_refused sources included files (BadPath n) it fault =
    absurd (good_no_bad (sources ++ included) n it.good fault.first)
trees_not_refused sources included files (SamePath n) it fault =
    absurd (distinct_none fault.sorted
    (distinct_permutation sources fault.sorted fault.by_path.complete
    (IsDistinct-from_AllPairs bytes_eq-Decides (paths_of sources) it.apart)) n fault.first.repeats)
trees_not_refused sources included files Memory it fault = refl
