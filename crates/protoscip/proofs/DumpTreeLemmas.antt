-- The tree of one source.
use Rattle.std.proofs.Common.{◌≡◌, ℕ, zero, suc, arith, List, [], ◌∷◌, Some, ap, sym, subst, refl}
use Rattle.std.specs.Prelude.{◌++◌, ◌≢◌, false, codes}
use Rattle.std.specs.List.{slice_get}
use Rattle.std.specs.List.Sorted.{IsStrictlySortedBy}
use Rattle.std.specs.declared.cmp.Ordering.TheVariants.{Less}
use Rattle.std.proofs.lemmas.Option.{same_Some, none-some, slice_get_within}
use Rattle.std.proofs.lemmas.List.Sorted.{length_permutation}
use Rattle.scip_symbol.specs.Path.{IsGoodPath}
use Rattle.source_tree.specs.Refusals.{MayRefuse}
use Rattle.source_tree.specs.declared.fault.TreeFault.{TreeFault}
use Rattle.source_tree.specs.declared.fault.TreeFault.TheVariants as refusal
use Rattle.source_tree.specs.Files.{SourceFile, TreeFile, in_tree, file_cmp}
use Rattle.source_tree.specs.Trees.{IsTreeOf, IsFileOf, of_source, of_included}
use Rattle.protoscip.specs.Dump.{source_path, dump_tree}
use Rattle.basics.proofs.FirstLemmas.{contained, at_contained}

-- a list of one has nothing else
only : {X : Type 0} (x y : X) (k : ℕ) → slice_get (x ∷ []) k ≡ Some y → y ≡ x
only x y zero at = sym (same_Some x y at)
only x y (suc k) at = absurd (none-some y at)

-- nothing is listed in an empty list
not_listed : (before behind : List SourceFile) (file : SourceFile) → [] ≡ before ++ file ∷ behind → ⊥
not_listed [] behind file same = cc
not_listed (x ∷ xs) behind file same = cc

is_it : (file : SourceFile) (x : TreeFile) → IsFileOf (file ∷ []) [] x → x ≡ in_tree false file
is_it file _ (of_source {file = other} has) =
    ap (in_tree false) (only file other has.0 (at_contained (file ∷ []) other has))
is_it file _ (of_included {file = other} counts) = absurd (not_listed counts.before counts.behind other counts.listed)

module _ (bytes : List ℕ) where
  source : SourceFile
  source = record { path = source_path; bytes = bytes; is_unread = false }

  not_before_itself : file_cmp (in_tree false source) (in_tree false source) ≡ Less → ⊥
  unfolding source
  not_before_itself same = cc

  pub one_source : (files : List TreeFile)
      → IsTreeOf (record { path = source_path; bytes = bytes; is_unread = false } ∷ []) [] files
      → files ≡ dump_tree bytes
  unfolding source IsStrictlySortedBy
  one_source [] tree = absurd
      (none-some (in_tree false source)
      (at_contained [] (in_tree false source)
      ((tree.whole (in_tree false source)).1 (of_source (contained (source ∷ []) zero source refl)))))
  one_source (x ∷ []) tree =
      ap (λ (y : TreeFile). y ∷ []) (is_it source x ((tree.whole x).0 (contained (x ∷ []) zero x refl)))
  one_source (x ∷ (y ∷ rest)) tree =
      let first = is_it source x ((tree.whole x).0 (contained (x ∷ (y ∷ rest)) zero x refl)) in
      let second = is_it source y ((tree.whole y).0 (contained (x ∷ (y ∷ rest)) (suc zero) y refl)) in
      let rising : file_cmp x y ≡ Less = tree.rising.0.0 in
      absurd (not_before_itself
      (subst (λ (z : TreeFile). file_cmp z (in_tree false source) ≡ Less) first
      (subst (λ (z : TreeFile). file_cmp x z ≡ Less) second rising)))

-- ---- it is a tree: its path is good, and there is no other

good_path : IsGoodPath source_path
good_path = record { as_folder = refl; name = codes "input"; ending = refl }

module _ (bytes : List ℕ) where
  abbrev alone : SourceFile
  alone = record { path = source_path; bytes = bytes; is_unread = false }

  not_bad : (number : ℕ) (file : SourceFile) → slice_get (alone ∷ []) number ≡ Some file → IsGoodPath file.path
  not_bad number file at = subst (λ (f : SourceFile). IsGoodPath f.path) (sym (only alone file number at)) good_path

  -- so no fault but want of memory comes
  pub never_refused : (fault : TreeFault)
      → MayRefuse (record { path = source_path; bytes = bytes; is_unread = false } ∷ []) [] fault
      → fault ≢ refusal.Memory → ⊥
  never_refused refusal.TooMany is named = omega (arith, is)
  never_refused (refusal.BadPath number) is named = is.first.bad (not_bad number is.first.file is.first.numbered)
  never_refused (refusal.SamePath number) is named =
      let count = length_permutation (alone ∷ []) is.sorted is.by_path.complete in
      let within = slice_get_within is.sorted number is.first.repeats.second is.first.repeats.numbered_second in
      let before = is.first.repeats.before in
      omega (arith, count, within, before)
  never_refused refusal.Memory is named = named refl
