-- Files that are asked about: whether each is the one at a place.
use Rattle.std.proofs.Common.{◌≡◌, ◌∙◌, ◌++◌, ◌+◌, ◌<◌, [], ◌∷◌, sym, ap, subst, ℕ, Bool, true, false, List}
use Rattle.std.proofs.Common.{None, Some, Option, length, take}
use Rattle.std.specs.Prelude.{All, slice_get}
use Rattle.std.specs.Option.{IfSome, option_map}
use Rattle.std.proofs.lemmas.List.{take_more}
use Rattle.std.proofs.lemmas.List.Elements.{All-push}
use Rattle.std.proofs.lemmas.Option.{get_or_from_slice_get, same_Some, slice_get_within}
use Rattle.basics.proofs.ListLemmas.{item_at}
use Rattle.source_tree.specs.Files.{TreeFile}
use Rattle.source_files.specs.Places.{IsSaid}
use Rattle.source_files.specs.Roots.{path_below}

module _ (same : List ℕ → Bool → Type 0) (root : List ℕ) where
  said_so : (answer : Bool) (file : TreeFile) → file.is_unread ≡ false → same (path_below root file.path) answer
      → IsSaid same root answer file
  said_so true file read answers = (read, answers)
  said_so false file read answers = λ _. answers

  -- what is said of one that could be read
  pub said_of : (found : Option TreeFile) (path below asked : List ℕ) (answer : Bool)
      → option_map (λ (file : TreeFile). file.path) found ≡ Some path
      → option_map (λ (file : TreeFile). file.is_unread) found ≡ Some false
      → below ≡ path_below root path → asked ≡ below → same asked answer → IfSome found (IsSaid same root answer)
  said_of None path below asked answer named marked one other answers = tt
  said_of (Some file) path below asked answer named marked one other answers =
      let path_is : file.path ≡ path = same_Some file.path path named in
      said_so answer file (same_Some file.is_unread false marked)
      (subst (λ (p : List ℕ). same p answer) (other ∙ (one ∙ ap (path_below root) (sym path_is))) answers)

  module _ (tree : List TreeFile) (number : ℕ) (within : number < length tree) where
    -- what is said of the file with a number
    said_there : (answer : Bool) → IfSome (slice_get tree number) (IsSaid same root answer)
        → (file : TreeFile) × (slice_get tree number ≡ Some file) × IsSaid same root answer file
    said_there answer said =
        let there = item_at tree number within in (
          there.0,
          there.1,
          subst (λ (found : Option TreeFile). IfSome found (IsSaid same root answer)) there.1 said,
        )

    -- or one more is spared
    pub one_spared : IfSome (slice_get tree number) (IsSaid same root false)
        → All (IsSaid same root false) (take number tree) → All (IsSaid same root false) (take (number + 1) tree)
    one_spared said so_far =
        let there = said_there false said in
        let next : take (number + 1) tree ≡ take number tree ++ there.0 ∷ [] =
        take_more tree number there.0 (slice_get_within tree number there.0 there.1)
        ∙ ap (λ (f : TreeFile). take number tree ++ f ∷ [])
        (get_or_from_slice_get tree number there.0 there.0 there.1) in
        subst (All (IsSaid same root false)) (sym next)
        (All-push (IsSaid same root false) (take number tree) there.0 so_far there.2)
