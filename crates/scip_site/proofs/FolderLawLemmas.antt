-- The first page has the places of folders.
use Rattle.std.proofs.Common.{◌≡◌, sym, ap, subst, ℕ, zero, suc, ◌-◌, Bool, true, false, cond, List, [], ◌∷◌}
use Rattle.std.proofs.Common.{◌++◌, map, take, length, ◌⊎◌, inl, inr}
use Rattle.std.specs.Prelude.{codes}
use Rattle.std.specs.List.{flat_map}
use Rattle.std.specs.Str.{bytes_eq}
use Rattle.scip_pages.specs.Urls.{folder_of}
use Rattle.scip_pages.specs.Crumbs.{folder_id, folders_on}
use Rattle.scip_pages.specs.Ids.{HasId}
use Rattle.scip_pages.specs.Tags.{Tag, ids_of, is_id, is_url, tags_of, values_of}
use Rattle.basics.proofs.ElementLemmas.{In, contained, from_append, from_map, in_at, in_map}
use Rattle.scip_site.specs.Laws.{FoldersHavePlaces}
use Rattle.scip_site.specs.Nesting.{Leaf, leaf_of, leaves_behind, leaves_in, open_behind}
use Rattle.scip_site.specs.Tree.{first_page}
use Rattle.scip_site.proofs.NestingLemmas.{tree_shows_folders}

-- ---- what is open was opened

pub in_left : {X : Type 0} (x : X) (xs ys : List X) → In x xs → In x (xs ++ ys)
in_left x [] ys is = absurd is
in_left x (y ∷ xs) ys (inl same) = inl same
in_left x (y ∷ xs) ys (inr is) = inr (in_left x xs ys is)

pub in_right : {X : Type 0} (x : X) (xs ys : List X) → In x ys → In x (xs ++ ys)
in_right x [] ys is = is
in_right x (y ∷ xs) ys is = inr (in_right x xs ys is)

from_take : {X : Type 0} (x : X) (n : ℕ) (xs : List X) → In x (take n xs) → In x xs
from_take x zero xs is = absurd is
from_take x (suc n) [] is = absurd is
from_take x (suc n) (y ∷ xs) (inl same) = inl same
from_take x (suc n) (y ∷ xs) (inr is) = inr (from_take x n xs is)

open_is : (open_ : List (List ℕ)) (tag : Tag) (id : List ℕ) → In id (open_behind open_ tag)
    → In id open_ ⊎ In id (values_of is_id tag)
open_is open_ tag id = by (bytes_eq tag.name (codes "details")) (bytes_eq tag.name (codes "/details"))
  where
    by : (b c : Bool)
        → In id (cond b (open_ ++ values_of is_id tag) (cond c (take (length open_ - 1) open_) open_))
        → In id open_ ⊎ In id (values_of is_id tag)
    by true c is = from_append id open_ (values_of is_id tag) is
    by false true is = inl (from_take id (length open_ - 1) open_ is)
    by false false is = inl is

leaf_is : (open_ : List (List ℕ)) (tag : Tag) (leaf : Leaf) → In leaf (leaves_in open_ tag) → leaf.folders ≡ open_
leaf_is open_ tag leaf = by (bytes_eq tag.name (codes "a"))
  where
    by : (b : Bool)
        → In leaf (cond b (map (λ (url : List ℕ). record { folders = open_; url = url }) (values_of is_url tag)) [])
        → leaf.folders ≡ open_
    by true is =
        let from = from_map (λ (url : List ℕ). record { folders = open_; url = url }) leaf (values_of is_url tag) is in
        ap (λ (l : Leaf). l.folders) from.2
    by false is = absurd is

opened : (open_ : List (List ℕ)) (tags : List Tag) (leaf : Leaf) (id : List ℕ) → In leaf (leaves_behind open_ tags)
    → In id leaf.folders → In id open_ ⊎ In id (flat_map (values_of is_id) tags)
opened open_ [] leaf id is has = absurd is
opened open_ (tag ∷ tags) leaf id is has =
    by (from_append leaf (leaves_in open_ tag) (leaves_behind (open_behind open_ tag) tags) is)
    (λ there. opened (open_behind open_ tag) tags leaf id there has)
  where
    ids : List (List ℕ)
    ids = values_of is_id tag

    others : List (List ℕ)
    others = flat_map (values_of is_id) tags

    behind : In id (open_behind open_ tag) ⊎ In id others → In id open_ ⊎ In id (ids ++ others)
    behind (inr later) = inr (in_right id ids others later)
    behind (inl now) = here (open_is open_ tag id now)
      where
        here : In id open_ ⊎ In id ids → In id open_ ⊎ In id (ids ++ others)
        here (inl before) = inl before
        here (inr begun) = inr (in_left id ids others begun)

    by : In leaf (leaves_in open_ tag) ⊎ In leaf (leaves_behind (open_behind open_ tag) tags)
        → (In leaf (leaves_behind (open_behind open_ tag) tags) → In id (open_behind open_ tag) ⊎ In id others)
        → In id open_ ⊎ In id (ids ++ others)
    by (inl now) later = inl (subst (In id) (leaf_is open_ tag leaf now) has)
    by (inr there) later = behind (later there)

-- ---- so the first page has the ids of all folders

pub folder_has : (paths : List (List ℕ)) (path folder : List ℕ) → In path paths
    → In folder (folders_on [] (folder_of path)) → HasId (folder_id folder) (first_page paths)
folder_has paths path folder listed is =
    let page : List ℕ = first_page paths in
    let id : List ℕ = folder_id folder in
    let leaf : In (leaf_of path) (leaves_behind [] (tags_of page)) =
    subst (In (leaf_of path)) (sym (tree_shows_folders paths).0) (in_map leaf_of path paths listed) in
    contained (ids_of page) id
    (by (opened [] (tags_of page) (leaf_of path) id leaf (in_map folder_id folder (folders_on [] (folder_of path)) is)))
  where
    by : In (folder_id folder) [] ⊎ In (folder_id folder) (ids_of (first_page paths))
        → In (folder_id folder) (ids_of (first_page paths))
    by (inl none) = absurd none
    by (inr has) = has

pub folders_have : FoldersHavePlaces
folders_have paths number at path folder listed is =
    folder_has paths path folder (in_at paths number path listed) (in_at (folders_on [] (folder_of path)) at folder is)
