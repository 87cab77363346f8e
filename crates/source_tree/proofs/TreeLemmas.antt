-- The sorted sources and the sorted included files that count are the tree.
use Rattle.std.proofs.Common.{◌≡◌, inl, inr, ℕ, ◌+◌, ◌<◌, ◌≤◌, Bool, true, false, zero, suc, List, [], ◌∷◌, ◌++◌, map}
use Rattle.std.proofs.Common.{length, Some, refl, ap, sym, ◌∙◌, subst, arith, length-append}
use Rattle.std.specs.declared.cmp.Ordering.TheVariants.{Less}
use Rattle.std.specs.Ordering.{nat_cmp}
use Rattle.std.specs.Prelude.{Result, Ok, Err, OnOk}
use Rattle.std.specs.Result.{is_err}
use Rattle.std.proofs.lemmas.Bool.{cases_lt}
use Rattle.std.specs.Cmp.{IsTotalOrder, bool_cmp_total}
use Rattle.std.specs.Cmp.Lexicographic.{slice_cmp}
use Rattle.std.specs.List.{All, AllByRecursion, Contains, slice_get}
use Rattle.std.specs.List.Sorted.{IsSorted, IsStrictlySortedBy, IsPermutation}
use Rattle.std.proofs.lemmas.List.{length-map}
use Rattle.std.proofs.lemmas.Cmp.{on_total, then_total, nat_list_cmp_total}
use Rattle.std.proofs.lemmas.Slice.Eq.{bytes_eq-Decides}
use Rattle.std.proofs.lemmas.Map.Made.{AllPairs-from_IsDistinct}
use Rattle.std.proofs.lemmas.List.Sorted.{IsPermutation-sym, length_permutation, All-permutation, Contains-permutation}
use Rattle.std.proofs.lemmas.List.Elements.{All-cons, All-head, All-tail, All-map, All-append, All-from_recursion}
use Rattle.std.proofs.lemmas.List.Elements.{recursion_from_All, Contains-append_left, Contains-append_right}
use Rattle.std.proofs.lemmas.List.Elements.{Contains-append_cases}
use Rattle.basics.proofs.ListLemmas.{in_front, behind_it, in_nothing, contains_map as mapped}
use Rattle.source_tree.specs.Path.{IsGoodPath}
use Rattle.source_tree.specs.Files.{SourceFile, TreeFile, in_tree, path_cmp, paths_of, HasPath, file_cmp, IsByPath}
use Rattle.source_tree.specs.Files.{RepeatsAPath}
use Rattle.source_tree.specs.Trees.{max_files, HaveOwnPaths, IsTree, IsFirstOfPath, IsFileOf, of_source, of_included}
use Rattle.source_tree.specs.Trees.{HaveGoodPaths, IsTreeOf}
use Rattle.source_tree.specs.Marks.{marks_of, marked, files_of}
use Rattle.basics.proofs.StrictOrderLemmas.{in_either, ascends_from, not_below_itself}
use Rattle.source_tree.proofs.PathLemmas.{before, paths_total, paths_rank, AreDistinct, distinct_permutation}
use Rattle.source_tree.proofs.PathLemmas.{distinct_from, rises_from}
use Rattle.source_tree.proofs.CountingLemmas.{counts_found, counts_marked, length-marked, All-marked, distinct_marked}

pub files_total : IsTotalOrder file_cmp
files_total = then_total (on_total (λ (file : TreeFile). file.is_included) bool_cmp_total)
    (on_total (λ (file : TreeFile). file.path) nat_list_cmp_total)

-- ---- elements of mapped lists

pub mapped_from : {X Y : Type 0} (f : X → Y) (xs : List X) (y : Y) → Contains (map f xs) y
    → (x : X) × Contains xs x × (f x ≡ y)
mapped_from f [] y there = absurd (in_nothing y there)
mapped_from {X} f (z ∷ zs) y there = elim (in_either (f z) (map f zs) y there) [
  | inl same ↦ (z, in_front z zs, same)
  | inr later ↦ later_one (mapped_from f zs y later)
]
  where
    later_one : (x : X) × Contains zs x × (f x ≡ y) → (x : X) × Contains (z ∷ zs) x × (f x ≡ y)
    later_one found = (found.0, behind_it z zs found.0 found.1, found.2)

-- ---- what holds of each of two lists joined

front : (P : SourceFile → Type 0) (xs ys : List SourceFile) → All P (xs ++ ys) → All P xs
front P [] ys each = λ k d h. absurd (omega arith)
front P (x ∷ xs) ys each = All-cons P x xs (All-head P x (xs ++ ys) each) (front P xs ys (All-tail P x (xs ++ ys) each))

back : (P : SourceFile → Type 0) (xs ys : List SourceFile) → All P (xs ++ ys) → All P ys
back P [] ys each = each
back P (x ∷ xs) ys each = back P xs ys (All-tail P x (xs ++ ys) each)

-- ---- in order

below_included : (x : SourceFile) (included : List SourceFile)
    → AllByRecursion (λ y. file_cmp (in_tree false x) y ≡ Less) (map (in_tree true) included)
below_included x [] = tt
below_included x (y ∷ included) = (refl, below_included x included)

below_both : (x : SourceFile) (sources included : List SourceFile) → AllByRecursion (λ y. path_cmp x y ≡ Less) sources
    → AllByRecursion (λ y. file_cmp (in_tree false x) y ≡ Less) (files_of sources included)
below_both x [] included up = below_included x included
below_both x (y ∷ sources) included up = (up.0, below_both x sources included up.1)

below_later : (x : SourceFile) (included : List SourceFile) → AllByRecursion (λ y. path_cmp x y ≡ Less) included
    → AllByRecursion (λ y. file_cmp (in_tree true x) y ≡ Less) (map (in_tree true) included)
below_later x [] up = tt
below_later x (y ∷ included) up = (up.0, below_later x included up.1)

rising_included : (included : List SourceFile) → IsStrictlySortedBy path_cmp included
    → IsStrictlySortedBy file_cmp (map (in_tree true) included)
unfolding IsStrictlySortedBy
rising_included [] up = tt
rising_included (x ∷ included) up = (below_later x included up.0, rising_included included up.1)

rising_files : (sources included : List SourceFile) → IsStrictlySortedBy path_cmp sources
    → IsStrictlySortedBy path_cmp included → IsStrictlySortedBy file_cmp (files_of sources included)
unfolding IsStrictlySortedBy
rising_files [] included up later = rising_included included later
rising_files (x ∷ sources) included up later =
    (below_both x sources included up.0, rising_files sources included up.1 later)

-- ---- paths of their own

-- each file's path is another than each later one's
abbrev Own : List TreeFile → Type 0
Own [] = Unit {0}
Own (x ∷ files) = AllByRecursion (λ y. x.path ≡ y.path → ⊥) files × Own files

later_differs : (x : TreeFile) (rest : List TreeFile) → AllByRecursion (λ y. x.path ≡ y.path → ⊥) rest
    → (k : ℕ) (y : TreeFile) → slice_get rest k ≡ Some y → x.path ≡ y.path → ⊥
later_differs x [] each k y at same = absurd cc
later_differs x (z ∷ rest) each zero y at same = let is : z ≡ y = cc in
    each.0 (same ∙ ap (λ (f : TreeFile). f.path) (sym is))
later_differs x (z ∷ rest) each (suc k) y at same = later_differs x rest each.1 k y at same

own_from : (files : List TreeFile) → Own files → HaveOwnPaths files
own_from [] own i j a b at_a at_b same = absurd cc
own_from (x ∷ files) own zero zero a b at_a at_b same = refl
own_from (x ∷ files) own zero (suc j) a b at_a at_b same =
    absurd (let is : x ≡ a = cc in later_differs x files own.0 j b at_b (ap (λ (f : TreeFile). f.path) is ∙ same))
own_from (x ∷ files) own (suc i) zero a b at_a at_b same =
    absurd (let is : x ≡ b = cc in later_differs x files own.0 i a at_a (ap (λ (f : TreeFile). f.path) is ∙ sym same))
own_from (x ∷ files) own (suc i) (suc j) a b at_a at_b same = ap suc (own_from files own.1 i j a b at_a at_b same)

not_less_alike : (x y : SourceFile) → path_cmp x y ≡ Less → x.path ≡ y.path → ⊥
not_less_alike x y below same =
    not_below_itself paths_total x (subst (λ p. slice_cmp nat_cmp x.path p ≡ Less) (sym same) below)

own_alike : (flag : Bool) (x : SourceFile) (files : List SourceFile) → AllByRecursion (λ y. path_cmp x y ≡ Less) files
    → AllByRecursion (λ (y : TreeFile). x.path ≡ y.path → ⊥) (map (in_tree flag) files)
own_alike flag x [] up = tt
own_alike flag x (y ∷ files) up = (not_less_alike x y up.0, own_alike flag x files up.1)

own_both : (x : SourceFile) (sources included : List SourceFile) → AllByRecursion (λ y. path_cmp x y ≡ Less) sources
    → (HasPath included x.path → ⊥)
    → AllByRecursion (λ (y : TreeFile). x.path ≡ y.path → ⊥) (files_of sources included)
own_both x [] included up apart =
    recursion_from_All (λ (y : TreeFile). x.path ≡ y.path → ⊥) (map (in_tree true) included)
    (All-map (λ (y : TreeFile). x.path ≡ y.path → ⊥) (in_tree true) included
    (All-from_recursion (λ (y : SourceFile). x.path ≡ y.path → ⊥) included (go included (λ there. apart there))))
  where
    go : (rest : List SourceFile) → (HasPath rest x.path → ⊥)
        → AllByRecursion (λ (y : SourceFile). x.path ≡ y.path → ⊥) rest
    go [] none = tt
    go (y ∷ rest) none = (
      λ same. none
          (subst (λ p. Contains (paths_of (y ∷ rest)) p) (sym same) (in_front y.path (paths_of rest))),
      go rest (λ there. none (behind_it y.path (paths_of rest) x.path there)),
    )
own_both x (y ∷ sources) included up apart = (not_less_alike x y up.0, own_both x sources included up.1 apart)

own_included : (included : List SourceFile) → IsStrictlySortedBy path_cmp included → Own (map (in_tree true) included)
unfolding IsStrictlySortedBy
own_included [] up = tt
own_included (x ∷ included) up = (own_alike true x included up.0, own_included included up.1)

own_files : (sources included : List SourceFile) → IsStrictlySortedBy path_cmp sources
    → IsStrictlySortedBy path_cmp included
    → ((file : SourceFile) → Contains sources file → HasPath included file.path → ⊥) → Own (files_of sources included)
unfolding IsStrictlySortedBy
own_files [] included up later apart = own_included included later
own_files (x ∷ sources) included up later apart = (
  own_both x sources included up.0 (apart x (in_front x sources)),
  own_files sources included up.1 later (λ file there. apart file (behind_it x sources file there)),
)

-- ---- the tree

-- what the code has made of the lists: the sources sorted, none with the path of another, and the included files that
-- count, sorted
pub record IsMade (sources included listed counted : List SourceFile) : Type 0 where
  pub few : length sources + length included ≤ max_files
  pub good : HaveGoodPaths (sources ++ included)
  pub by_path : IsByPath sources listed
  pub none : (number : ℕ) → RepeatsAPath listed number → ⊥
  pub complete : IsPermutation (marked (marks_of (paths_of sources) included) included) counted
  pub ascends : IsSorted path_cmp counted

module _ (sources included listed counted : List SourceFile) (made : IsMade sources included listed counted) where
  listed_distinct : AreDistinct listed
  listed_distinct = distinct_from listed made.none

  counted_distinct : AreDistinct counted
  counted_distinct = distinct_permutation (marked (marks_of (paths_of sources) included) included) counted made.complete
      (distinct_marked (paths_of sources) included)

  listed_rises : IsStrictlySortedBy path_cmp listed
  listed_rises = rises_from listed (ascends_from before paths_rank listed made.by_path.ascends) listed_distinct

  counted_rises : IsStrictlySortedBy path_cmp counted
  counted_rises = rises_from counted (ascends_from before paths_rank counted made.ascends) counted_distinct

  counted_counts : (file : SourceFile) → Contains counted file → IsFirstOfPath sources included file
  counted_counts file there =
      counts_found sources included file
      (Contains-permutation counted (marked (marks_of (paths_of sources) included) included) file
      (IsPermutation-sym (marked (marks_of (paths_of sources) included) included) counted made.complete) there)

  counts_counted : (file : SourceFile) → IsFirstOfPath sources included file → Contains counted file
  counts_counted file it =
      Contains-permutation (marked (marks_of (paths_of sources) included) included) counted file made.complete
      (counts_marked sources included file it)

  listed_from : (file : SourceFile) → Contains listed file → Contains sources file
  listed_from file there =
      Contains-permutation listed sources file (IsPermutation-sym sources listed made.by_path.complete) there

  apart : (file : SourceFile) → Contains listed file → HasPath counted file.path → ⊥
  apart file there path =
      let other = mapped_from (λ (f : SourceFile). f.path) counted file.path path in
      (counted_counts other.0 other.1).apart
      (subst (λ p. Contains (paths_of sources) p) (sym other.2)
      (mapped (λ (f : SourceFile). f.path) sources file (listed_from file there)))

  whole_found : (file : TreeFile) → Contains (files_of listed counted) file → IsFileOf sources included file
  whole_found file there =
      elim (Contains-append_cases (map (in_tree false) listed) (map (in_tree true) counted) file there) [
        | inl one ↦ (let found = mapped_from (in_tree false) listed file one in
            subst (IsFileOf sources included) found.2 (of_source (listed_from found.0 found.1)))
        | inr one ↦ (let found = mapped_from (in_tree true) counted file one in
            subst (IsFileOf sources included) found.2 (of_included (counted_counts found.0 found.1)))
      ]

  whole_if : (file : TreeFile) → IsFileOf sources included file → Contains (files_of listed counted) file
  whole_if file (of_source {file = given} there) =
      Contains-append_left (map (in_tree false) listed) (map (in_tree true) counted) (in_tree false given)
      (mapped (in_tree false) listed given (Contains-permutation sources listed given made.by_path.complete there))
  whole_if file (of_included {file = given} it) =
      Contains-append_right (map (in_tree false) listed) (map (in_tree true) counted) (in_tree true given)
      (mapped (in_tree true) counted given (counts_counted given it))

  pub made_tree_of : IsTreeOf sources included (files_of listed counted)
  made_tree_of = record {
    few = made.few;
    good = made.good;
    apart = AllPairs-from_IsDistinct bytes_eq-Decides (paths_of sources)
        (distinct_permutation listed sources (IsPermutation-sym sources listed made.by_path.complete) listed_distinct);
    whole = λ file. (whole_found file, whole_if file);
    rising = rising_files listed counted listed_rises counted_rises;
  }

  size : length (files_of listed counted) ≤ max_files
  size =
      let whole = length-append (map (in_tree false) listed) (map (in_tree true) counted) in
      let left = length-map listed (in_tree false) in
      let right = length-map counted (in_tree true) in
      let sorted = length_permutation sources listed made.by_path.complete in
      let also = length_permutation (marked (marks_of (paths_of sources) included) included) counted made.complete in
      let fewer = length-marked (marks_of (paths_of sources) included) included in
      let few = made.few in
      omega arith

  good_files : All (λ (file : TreeFile). IsGoodPath file.path) (files_of listed counted)
  good_files = All-append (λ (file : TreeFile). IsGoodPath file.path) (map (in_tree false) listed)
      (map (in_tree true) counted)
      (All-map (λ (file : TreeFile). IsGoodPath file.path) (in_tree false) listed
      (All-permutation (λ (file : SourceFile). IsGoodPath file.path) sources listed made.by_path.complete
      (front (λ (file : SourceFile). IsGoodPath file.path) sources included made.good)))
      (All-map (λ (file : TreeFile). IsGoodPath file.path) (in_tree true) counted
      (All-permutation (λ (file : SourceFile). IsGoodPath file.path)
      (marked (marks_of (paths_of sources) included) included) counted made.complete
      (All-marked (λ (file : SourceFile). IsGoodPath file.path) (marks_of (paths_of sources) included) included
      (back (λ (file : SourceFile). IsGoodPath file.path) sources included made.good))))

  pub made_tree : IsTree (files_of listed counted)
  made_tree = record {
    few = size;
    good = good_files;
    own = own_from (files_of listed counted) (own_files listed counted listed_rises counted_rises apart);
    rising = rising_files listed counted listed_rises counted_rises;
  }

pub made_from : (sources included listed counted picked : List SourceFile) (marks : List Bool)
    → length sources + length included ≤ max_files → HaveGoodPaths (sources ++ included)
    → marks ≡ marks_of (paths_of sources) included
    → IsByPath sources listed → ((number : ℕ) → RepeatsAPath listed number → ⊥) → picked ≡ marked marks included
    → IsPermutation picked counted → IsSorted path_cmp counted
    → IsMade sources included listed counted
made_from sources included listed counted picked marks few good are_marks by_path none are_marked complete ascends =
    record {
      few = few;
      good = good;
      by_path = by_path;
      none = none;
      complete = subst (λ l. IsPermutation l counted) (are_marked ∙ ap (λ m. marked m included) are_marks) complete;
      ascends = ascends;
    }

pub few_from : (sources included : List SourceFile) → (max_files < length sources + length included → ⊥)
    → length sources + length included ≤ max_files
few_from sources included few = elim (cases_lt max_files (length sources + length included)) [
  | inl many ↦ absurd (few many)
  | inr within ↦ within
]

-- what is said of a call that has succeeded
pub if_not_err : {T E : Type 0} (r : Result T E) (P : Type 0) → OnOk r P → is_err r ≡ false → P
if_not_err (Ok x) P p e = p
if_not_err (Err x) P p e = absurd cc
