-- What is said of a tree without sources.
use Rattle.std.proofs.Common.{◌≡◌, ℕ, Bool, true, false, List, Some, None, subst, sym}
use Rattle.source_files.specs.declared.look_again.PassedOver.{PassedOver}
use Rattle.source_tree.specs.Files.{TreeFile}
use Rattle.source_tree.specs.Trees.{IsSourceCount}
use Rattle.programs.specs.NoSources.{NoneFound, NoneListed, list_unasked, none_found, none_listed, no_list_line}
use Rattle.programs.specs.NoSources.{no_sources_line, unasked}

module _ (passes : PassedOver → Type 0) (root : List ℕ) (tree : List TreeFile) where
  pub nothing_unasked : (asked : Bool) → asked ≡ false → NoneFound passes root tree asked None
  nothing_unasked true is = absurd cc
  nothing_unasked false is = unasked

  pub said_asked : (asked : Bool) (count : ℕ) (line : List ℕ) (passed : PassedOver) → asked ≡ true
      → IsSourceCount tree count → count ≡ 0 → passes passed → line ≡ no_sources_line root passed
      → NoneFound passes root tree asked (Some line)
  said_asked false count line passed is sources none counted same = absurd cc
  said_asked true count line passed is sources none counted same =
      subst (λ (l : List ℕ). NoneFound passes root tree true (Some l)) (sym same)
      (none_found passed (subst (λ (n : ℕ). IsSourceCount tree n) none sources) counted)

module _ (file : List ℕ) (tree : List TreeFile) where
  pub list_unasked_of : (asked : Bool) → asked ≡ false → NoneListed file tree asked None
  list_unasked_of true is = absurd cc
  list_unasked_of false is = list_unasked

  pub list_said : (asked : Bool) (count : ℕ) (line : List ℕ) → asked ≡ true → IsSourceCount tree count → count ≡ 0
      → line ≡ no_list_line file → NoneListed file tree asked (Some line)
  list_said false count line is sources none same = absurd cc
  list_said true count line is sources none same =
      subst (λ (l : List ℕ). NoneListed file tree true (Some l)) (sym same)
      (none_listed (subst (λ (n : ℕ). IsSourceCount tree n) none sources))
