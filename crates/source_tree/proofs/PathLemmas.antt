-- Lists of files sorted by path: a file with the path of an earlier one stands next to it.
use Rattle.std.proofs.Common.{◌≡◌, ℕ, ◌+◌, ◌<◌, ◌≤◌, Bool, true, false, zero, suc, List, [], ◌∷◌, length, get_or, Some}
use Rattle.std.proofs.Common.{refl, ap, sym, ◌∙◌, subst, arith}
use Rattle.std.specs.declared.cmp.Ordering.{Ordering}
use Rattle.std.specs.declared.cmp.Ordering.TheVariants.{Less, Equal, Greater}
use Rattle.std.specs.Ordering.{is_lt, nat_cmp, ordering_reverse}
use Rattle.std.specs.Cmp.{IsTotalOrder, IsStrictWeakOrder}
use Rattle.std.specs.Cmp.Lexicographic.{slice_cmp}
use Rattle.std.specs.Str.{bytes_eq}
use Rattle.std.specs.List.{AllByRecursion, slice_get, IsDistinct}
use Rattle.std.specs.List.Sorted.{IsSorted, IsStrictlySortedBy, IsPermutation}
use Rattle.std.proofs.lemmas.Bool.{false_from_ne_true}
use Rattle.std.proofs.lemmas.Cmp.{on_total, nat_list_cmp_total, nat_list_eq_equiv}
use Rattle.std.proofs.lemmas.Slice.Eq.{bytes_eq-Decides}
use Rattle.std.proofs.lemmas.Option.{slice_get_within, get_or_from_slice_get}
use Rattle.std.proofs.lemmas.Map.Lookups.{exact_bytes}
use Rattle.std.proofs.lemmas.Map.Keys.{IsDistinct-IsPermutation}
use Rattle.std.proofs.lemmas.List.Sorted.{sorted_far, ranks_by, IsPermutation-map}
use Rattle.source_tree.specs.Files.{SourceFile, path_cmp, paths_of, IsByPath, RepeatsAPath}
use Rattle.basics.proofs.StrictOrderLemmas.{Ascends, ascends_from, neither_less, sorted_one}

abbrev pub before : SourceFile → SourceFile → Bool
before a b = is_lt (path_cmp a b)

pub paths_total : IsTotalOrder path_cmp
paths_total = on_total (λ (file : SourceFile). file.path) nat_list_cmp_total

pub paths_rank : IsStrictWeakOrder before
paths_rank = ranks_by nat_list_cmp_total (λ (file : SourceFile). file.path)

-- of files of which neither comes before the other, both have one path
pub one_path : (a b : SourceFile) → before a b ≡ false → before b a ≡ false → a.path ≡ b.path
one_path a b p q = exact_bytes a.path b.path (neither_less (path_cmp a b) (path_cmp b a) (paths_total.antisymm a b) p q)

-- files are sorted by path in one way
pub one_sorting : (files sorted other : List SourceFile) → IsByPath files sorted → IsByPath files other → sorted ≡ other
one_sorting files sorted other left right =
    sorted_one paths_total sorted other (ascends_from before paths_rank sorted left.ascends)
    (ascends_from before paths_rank other right.ascends)
    (λ z. left.stable z ∙ sym (right.stable z))

-- ---- repeated paths

-- in a sorted list, a file with the path of an earlier one has the path of the one before it
pub repeats_next : (files : List SourceFile) → IsSorted path_cmp files → (number : ℕ) (a b : SourceFile)
    → slice_get files number ≡ Some a → slice_get files (number + 1) ≡ Some b
    → RepeatsAPath files (number + 1) → a.path ≡ b.path
repeats_next files up number a b at_a at_b again =
    let within = slice_get_within files (number + 1) b at_b in
    let earlier : again.earlier ≤ number = omega (arith, again.before) in
    let is_a = get_or_from_slice_get files number a a at_a in
    let is_b = get_or_from_slice_get files (number + 1) b a at_b in
    let is_first = get_or_from_slice_get files again.earlier again.first a again.numbered_first in
    let is_second = get_or_from_slice_get files (number + 1) again.second a again.numbered_second in
    let path : again.first.path ≡ b.path = again.same ∙ ap (λ (file : SourceFile). file.path) (sym is_second ∙ is_b) in
    let low : before a again.first ≡ false =
    subst (λ x. before a x ≡ false) is_first
    (subst (λ x. before x (get_or files again.earlier a) ≡ false) is_a
    (sorted_far before paths_rank files up again.earlier number a earlier (omega arith))) in
    let high : before b a ≡ false =
    subst (λ x. before b x ≡ false) is_a
    (subst (λ x. before x (get_or files number a) ≡ false) is_b
    (sorted_far before paths_rank files up number (number + 1) a (omega arith) within)) in
    one_path a b (subst (λ p. is_lt (slice_cmp nat_cmp a.path p) ≡ false) path low) high

-- a file repeats the path of the one before it
pub repeats_from : (files : List SourceFile) (number : ℕ) (a b : SourceFile) → slice_get files number ≡ Some a
    → slice_get files (number + 1) ≡ Some b → a.path ≡ b.path → RepeatsAPath files (number + 1)
repeats_from files number a b at_a at_b same =
    record {
      earlier = number;
      before = omega arith;
      first = a;
      second = b;
      numbered_first = at_a;
      numbered_second = at_b;
      same = same;
    }

pub repeats_within : (files : List SourceFile) (number : ℕ) → RepeatsAPath files number → number < length files
repeats_within files number again = slice_get_within files number again.second again.numbered_second

repeats_behind : (x : SourceFile) (files : List SourceFile) (number : ℕ) → RepeatsAPath files number
    → RepeatsAPath (x ∷ files) (suc number)
repeats_behind x files number again =
    record {
      earlier = suc again.earlier;
      before = omega (arith, again.before);
      first = again.first;
      second = again.second;
      numbered_first = again.numbered_first;
      numbered_second = again.numbered_second;
      same = again.same;
    }

-- ---- files with paths of their own

-- no two files have one path
abbrev pub AreDistinct : List SourceFile → Type 0
AreDistinct files = IsDistinct bytes_eq (paths_of files)

pub distinct_permutation : (files others : List SourceFile) → IsPermutation files others → AreDistinct files
    → AreDistinct others
distinct_permutation files others same apart =
    IsDistinct-IsPermutation bytes_eq nat_list_eq_equiv.symm (paths_of files) (paths_of others)
    (IsPermutation-map (λ (file : SourceFile). file.path) files others same) apart

differ : (p q : List ℕ) → (p ≡ q → ⊥) → bytes_eq p q ≡ false
differ p q apart = false_from_ne_true (bytes_eq p q) (λ e. apart ((bytes_eq-Decides p q).0 e))

apart_from : (p q : List ℕ) → bytes_eq p q ≡ false → p ≡ q → ⊥
apart_from p q e same = let holds : bytes_eq p q ≡ true = (bytes_eq-Decides p q).1 same in absurd cc

all_differ : (x : SourceFile) (files : List SourceFile) → ((number : ℕ) → RepeatsAPath (x ∷ files) number → ⊥)
    → AllByRecursion (λ path. bytes_eq x.path path ≡ false) (paths_of files)
all_differ x files none =
    go files (λ k y at same. none (suc k)
    (record {
      earlier = 0;
      before = omega arith;
      first = x;
      second = y;
      numbered_first = refl;
      numbered_second = at;
      same = same;
    }))
  where
    go : (rest : List SourceFile) → ((k : ℕ) (y : SourceFile) → slice_get rest k ≡ Some y → x.path ≡ y.path → ⊥)
        → AllByRecursion (λ path. bytes_eq x.path path ≡ false) (paths_of rest)
    go [] apart = tt
    go (y ∷ rest) apart = (differ x.path y.path (apart 0 y refl), go rest (λ k z at. apart (suc k) z at))

-- files of which none repeats a path
pub distinct_from : (files : List SourceFile) → ((number : ℕ) → RepeatsAPath files number → ⊥) → AreDistinct files
unfolding IsDistinct
distinct_from [] none = tt
distinct_from (x ∷ files) none = (
  all_differ x files none,
  distinct_from files (λ number again. none (suc number) (repeats_behind x files number again)),
)

later_differs : (path : List ℕ) (rest : List SourceFile)
    → AllByRecursion (λ other. bytes_eq path other ≡ false) (paths_of rest) → (k : ℕ) (y : SourceFile)
    → slice_get rest k ≡ Some y → path ≡ y.path → ⊥
later_differs path [] each k y at same = absurd cc
later_differs path (z ∷ rest) each zero y at same = let is : z ≡ y = cc in
    apart_from path z.path each.0 (same ∙ ap (λ (file : SourceFile). file.path) (sym is))
later_differs path (z ∷ rest) each (suc k) y at same = later_differs path rest each.1 k y at same

two_differ : (rest : List SourceFile) → AreDistinct rest → (i j : ℕ) (a b : SourceFile) → i < j
    → slice_get rest i ≡ Some a → slice_get rest j ≡ Some b → a.path ≡ b.path → ⊥
unfolding IsDistinct
two_differ [] h i j a b below at_a at_b same = absurd cc
two_differ (z ∷ rest) h zero zero a b below at_a at_b same = absurd (omega arith)
two_differ (z ∷ rest) h zero (suc j) a b below at_a at_b same = let is : z ≡ a = cc in
    later_differs z.path rest h.0 j b at_b (ap (λ (file : SourceFile). file.path) is ∙ same)
two_differ (z ∷ rest) h (suc i) zero a b below at_a at_b same = absurd (omega arith)
two_differ (z ∷ rest) h (suc i) (suc j) a b below at_a at_b same =
    two_differ rest h.1 i j a b (omega arith) at_a at_b same

-- files with paths of their own don't repeat one
pub distinct_none : (files : List SourceFile) → AreDistinct files → (number : ℕ) → RepeatsAPath files number → ⊥
distinct_none files apart number again =
    two_differ files apart again.earlier number again.first again.second again.before again.numbered_first
    again.numbered_second again.same

-- sorted files with paths of their own rise strictly
pub rises_from : (files : List SourceFile) → Ascends before files → AreDistinct files
    → IsStrictlySortedBy path_cmp files
unfolding IsStrictlySortedBy IsDistinct
rises_from [] up apart = tt
rises_from (x ∷ files) up apart = (each files up.0 apart.0, rises_from files up.1 apart.1)
  where
    less : (y : SourceFile) → before y x ≡ false → bytes_eq x.path y.path ≡ false → path_cmp x y ≡ Less
    less y p q = by (path_cmp x y) refl
      where
        by : (o : Ordering) → path_cmp x y ≡ o → path_cmp x y ≡ Less
        by Less e = e
        by Equal e = absurd (apart_from x.path y.path q (exact_bytes x.path y.path e))
        by Greater e = absurd (let back : path_cmp y x ≡ ordering_reverse (path_cmp x y) = paths_total.antisymm y x in
            let is : path_cmp y x ≡ Less = back ∙ ap ordering_reverse e in let holds : before y x ≡ true =
            ap is_lt is in cc)

    each : (rest : List SourceFile) → AllByRecursion (λ y. before y x ≡ false) rest
        → AllByRecursion (λ path. bytes_eq x.path path ≡ false) (paths_of rest)
        → AllByRecursion (λ y. path_cmp x y ≡ Less) rest
    each [] p q = tt
    each (y ∷ rest) p q = (less y p.0 q.0, each rest p.1 q.1)
