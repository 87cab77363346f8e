-- The tree of sources and included files is a tree: so the headline applies to what is read from files.
use Rattle.std.proofs.Common.{◌≡◌, inl, inr, ℕ, zero, ◌<◌, Some, List, ◌∷◌, ◌++◌, map, sym, refl, subst}
use Rattle.std.proofs.Common.{arith}
use Rattle.std.specs.Prelude.{true, false, All, Contains}
use Rattle.std.specs.declared.cmp.Ordering.TheVariants.{Less}
use Rattle.std.specs.List.{slice_get}
use Rattle.std.specs.Ordering.{nat_cmp}
use Rattle.std.specs.Cmp.Lexicographic.{slice_cmp}
use Rattle.std.proofs.lemmas.Bool.{cases_order}
use Rattle.std.proofs.lemmas.List.{length-append, length-map}
use Rattle.std.proofs.lemmas.List.Elements.{All-contains, All-contains_itself, All-weaker, Contains-append_left}
use Rattle.std.proofs.lemmas.List.Elements.{Contains-append_right}
use Rattle.basics.proofs.ListLemmas.{contains_map}
use Rattle.scip_symbol.specs.Path.{IsGoodPath}
use Rattle.source_tree.specs.Files.{SourceFile, TreeFile, in_tree, paths_of, file_cmp}
use Rattle.source_tree.specs.Trees.{IsTree, IsTreeOf, IsFileOf, of_source, of_included, IsFirstOfPath, HaveOwnPaths}
use Rattle.basics.proofs.StrictOrderLemmas.{not_below_itself}
use Rattle.source_tree.proofs.PathLemmas.{paths_total}
use Rattle.source_tree.proofs.TreeLemmas.{files_total}
use Rattle.basics.proofs.PlaceLemmas.{rising_at}
use Rattle.protoscip.proofs.HeadlineRisingLemmas.{no_longer}
use Rattle.basics.proofs.FirstLemmas.{contained}

module _ (sources included : List SourceFile) where
  listed : (file : SourceFile) → IsFirstOfPath sources included file → Contains included file
  listed file counts =
      let In : List SourceFile → Type 0 = λ files. Contains files file in
      subst In (sym counts.listed)
      (Contains-append_right counts.before (file ∷ counts.behind) file
      (contained (file ∷ counts.behind) zero file refl))

  given : (file : TreeFile) → IsFileOf sources included file
      → Contains (map (in_tree false) sources ++ map (in_tree true) included) file
  given _ (of_source {file = file} there) =
      Contains-append_left (map (in_tree false) sources) (map (in_tree true) included) (in_tree false file)
      (contains_map (in_tree false) sources file there)
  given _ (of_included {file = file} counts) =
      Contains-append_right (map (in_tree false) sources) (map (in_tree true) included) (in_tree true file)
      (contains_map (in_tree true) included file (listed file counts))

  good : All (λ (file : SourceFile). IsGoodPath file.path) (sources ++ included) → (file : TreeFile)
      → IsFileOf sources included file → IsGoodPath file.path
  good each _ (of_source {file = file} there) =
      All-contains (λ (f : SourceFile). IsGoodPath f.path) (sources ++ included) file each
      (Contains-append_left sources included file there)
  good each _ (of_included {file = file} counts) =
      All-contains (λ (f : SourceFile). IsGoodPath f.path) (sources ++ included) file each
      (Contains-append_right sources included file (listed file counts))

  -- no file is before one with its path
  not_alike : (x y : SourceFile) → slice_cmp nat_cmp x.path y.path ≡ Less → x.path ≡ y.path → ⊥
  not_alike x y less same =
      let Before : List ℕ → Type 0 = λ path. slice_cmp nat_cmp x.path path ≡ Less in
      not_below_itself paths_total x (subst Before (sym same) less)

  not_counted : (x y : SourceFile) → Contains sources x → IsFirstOfPath sources included y → x.path ≡ y.path → ⊥
  not_counted x y there counts same =
      let Has : List ℕ → Type 0 = λ path. Contains (paths_of sources) path in
      counts.apart (subst Has same (contains_map (λ (f : SourceFile). f.path) sources x there))

  apart : (a b : TreeFile) → IsFileOf sources included a → IsFileOf sources included b → file_cmp a b ≡ Less
      → a.path ≡ b.path → ⊥
  apart _ _ (of_source {file = x} here) (of_source {file = y} there) less same = not_alike x y less same
  apart _ _ (of_source {file = x} here) (of_included {file = y} counts) less same = not_counted x y here counts same
  apart _ _ (of_included {file = x} counts) (of_source {file = y} there) less same =
      not_counted y x there counts (sym same)
  apart _ _ (of_included {file = x} counts) (of_included {file = y} also) less same = not_alike x y less same

  pub tree_of_files : (files : List TreeFile) → IsTreeOf sources included files → IsTree files
  tree_of_files files is = record {
    few =
        let left = length-append (map (in_tree false) sources) (map (in_tree true) included) in
        let first = length-map sources (in_tree false) in
        let second = length-map included (in_tree true) in
        let within = no_longer file_cmp files_total files
        (map (in_tree false) sources ++ map (in_tree true) included) is.rising
        (λ file there. given file ((is.whole file).0 there)) in
        let few = is.few in
        omega arith;
    good = All-weaker (Contains files) (λ (file : TreeFile). IsGoodPath file.path)
        (λ file there. good is.good file ((is.whole file).0 there)) files (All-contains_itself files);
    own = own;
    rising = is.rising;
  }
    where
      before : (i j : ℕ) (a b : TreeFile) → i < j → slice_get files i ≡ Some a → slice_get files j ≡ Some b
          → a.path ≡ b.path → ⊥
      before i j a b less at and same =
          apart a b ((is.whole a).0 (contained files i a at)) ((is.whole b).0 (contained files j b and))
          (rising_at file_cmp files i j a b is.rising less at and) same

      own : HaveOwnPaths files
      own i j a b at and same = elim (cases_order i j) [
        | inl one ↦ one
        | inr differ ↦ elim differ [
          | inl less ↦ absurd (before i j a b less at and same)
          | inr more ↦ absurd (before j i b a more and at (sym same))
        ]
      ]
