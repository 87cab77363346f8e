-- What is left of a block's items behind an item.
use Rattle.std.proofs.Common.{◌≡◌, ℕ, zero, suc, ◌≤◌, ◌+◌, ◌<◌, List, [], ◌∷◌, ◌++◌, length, get_or, drop, refl, ap}
use Rattle.std.proofs.Common.{sym, ◌∙◌, arith, add-one}
use Rattle.std.specs.List.{All, AllByRecursion, flat_map}
use Rattle.std.proofs.lemmas.List.Elements.{All-nil, All-cons, recursion_from_All}
use Rattle.std.proofs.Math.Seq.{drop-cons}
use Rattle.proto_parse.specs.tree.FileItem.{FileItem}
use Rattle.proto_parse.specs.tree.Item.{Item}
use Rattle.proto_parse.specs.tree.Item.TheVariants.{Block, Leaf}
use Rattle.proto_parse.specs.Tree.{BlockTree, body_size, block_size}
use Rattle.proto_parse.specs.Items.{body_of}
use Rattle.proto_parse.specs.Parts.{Part, of_body, anywhere, one_part, parts_in}
use Rattle.proto_parse.proofs.SplitLemmas.{all_left, all_right}
use Rattle.proto_decl.specs.Walked.{parts_in_leaf, parts_in_block, parts_in_item, parts_of_inner}

-- what is left from an index on begins with the element there
pub left_at : {X : Type 0} (xs : List X) (i : ℕ) (x : X) → i < length xs → x ≡ get_or xs i x
    → drop i xs ≡ x ∷ drop (i + 1) xs
left_at xs i x within is = drop-cons xs i x within ∙ (ap (λ y. y ∷ drop (suc i) xs) (sym is) ∙ rw add-one refl)

-- what is left of a body is no larger than the body
body_size-left : (items : List Item) (i : ℕ) → body_size (body_of (drop i items)) ≤ body_size (body_of items)
body_size-left items zero = omega arith
body_size-left [] (suc i) = omega arith
body_size-left (Block block ∷ items) (suc i) = omega (arith, body_size-left items i)
body_size-left (Leaf leaf ∷ items) (suc i) = omega (arith, body_size-left items i)

-- a block in them is smaller
pub nested-smaller : (items rest : List Item) (i : ℕ) (nested : BlockTree) → drop i items ≡ Block nested ∷ rest
    → block_size nested ≤ body_size (body_of items)
nested-smaller items rest i nested left =
    let inner = ap (λ (xs : List Item). body_size (body_of xs)) left in
    omega (arith, body_size-left items i)

-- what holds of each part of what is gone through holds of each part of what is in it
module _ (Q : Part → Type 0) where
  in-front : (xs ys : List Part) → AllByRecursion Q (xs ++ ys) → AllByRecursion Q xs
  in-front [] ys all = tt
  in-front (x ∷ xs) ys all = (all.0, in-front xs ys all.1)

  behind : (xs ys : List Part) → AllByRecursion Q (xs ++ ys) → AllByRecursion Q ys
  behind [] ys all = all
  behind (x ∷ xs) ys all = behind xs ys all.1

  pub parts-row : {X : Type 0} (part : X → Part) (xs : List X) → AllByRecursion Q (flat_map (λ x. part x ∷ []) xs)
      → All (λ x. Q (part x)) xs
  parts-row part [] all = All-nil (λ x. Q (part x))
  parts-row part (x ∷ xs) all = All-cons (λ y. Q (part y)) x xs all.0 (parts-row part xs all.1)

  pub parts-inner : (items : List Item) → AllByRecursion Q (of_body anywhere one_part tt (body_of items))
      → All (λ item. AllByRecursion Q (parts_of_inner item)) items
  parts-inner [] all = All-nil (λ (item : Item). AllByRecursion Q (parts_of_inner item))
  parts-inner (Block block ∷ items) all =
      let later : List Part = of_body anywhere one_part tt (body_of items) in
      All-cons (λ (item : Item). AllByRecursion Q (parts_of_inner item)) (Block block) items
      (in-front (parts_in_block block) later all) (parts-inner items (behind (parts_in_block block) later all))
  parts-inner (Leaf leaf ∷ items) all =
      let later : List Part = of_body anywhere one_part tt (body_of items) in
      All-cons (λ (item : Item). AllByRecursion Q (parts_of_inner item)) (Leaf leaf) items
      (in-front (parts_in_leaf leaf) later all) (parts-inner items (behind (parts_in_leaf leaf) later all))

  pub parts-outer : (items : List FileItem) → All Q (parts_in items)
      → All (λ item. AllByRecursion Q (parts_in_item item)) items
  parts-outer [] all = All-nil (λ (item : FileItem). AllByRecursion Q (parts_in_item item))
  parts-outer (item ∷ items) all =
      All-cons (λ (i : FileItem). AllByRecursion Q (parts_in_item i)) item items
      (recursion_from_All Q (parts_in_item item) (all_left Q (parts_in_item item) (parts_in items) all))
      (parts-outer items (all_right Q (parts_in_item item) (parts_in items) all))
