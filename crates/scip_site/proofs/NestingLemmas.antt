-- What a reader makes of the first page.
use Rattle.std.proofs.Common.{◌≡◌, ◌∙◌, sym, refl, ap, subst, ℕ, zero, suc, ◌-◌, ◌+◌, ◌==◌, ◌≤◌, Bool, true, false}
use Rattle.std.proofs.Common.{cond, List, [], ◌∷◌, ◌++◌, map, take, drop, length, arith, append_assoc, append-nil, inl}
use Rattle.std.proofs.Common.{inr}
use Rattle.std.specs.Prelude.{codes}
use Rattle.std.specs.List.{flat_map, range_with_len}
use Rattle.std.specs.Str.{bytes_eq}
use Rattle.std.proofs.lemmas.List.{length-map, length-take-le, map-append, take-append-drop, take-map, take-take}
use Rattle.std.proofs.lemmas.List.{take_all}
use Rattle.basics.proofs.TestLemmas.{not_zero as not_none}
use Rattle.scip_pages.specs.Code.{attribute}
use Rattle.scip_pages.specs.Escapes.{escape}
use Rattle.scip_pages.specs.Paths.{components}
use Rattle.scip_pages.specs.Urls.{encoded, folder_of}
use Rattle.scip_pages.specs.Crumbs.{folder_id, folders_on, head_text}
use Rattle.scip_pages.specs.Marks.{link}
use Rattle.scip_pages.specs.Site.{page_path}
use Rattle.scip_pages.specs.Tags.{Tag, Data, AttributeName, bare, tag_with, tags_of}
use Rattle.scip_pages.proofs.UrlCleanLemmas.{clean_encoded, clean_folder_id}
use Rattle.basics.proofs.ElementLemmas.{In}
use Rattle.scip_pages.proofs.TagLemmas.{Fine, Reads, both, chain, end_a, escaped_reads, fine_const, fine_each}
use Rattle.scip_pages.proofs.TagLemmas.{link_reads, no_urls, quoted_clean, tag_a}
use Rattle.scip_pages.proofs.CodePartLemmas.{fine_head}
use Rattle.scip_site.specs.Tree.{closes, common, first_page, last_of, leaf_with, open_or_none, open_text}
use Rattle.scip_site.specs.Tree.{opens, search_text, step, tree}
use Rattle.scip_site.specs.Nesting.{Leaf, all_open, leaf_of, leaves_behind, leaves_in, open_behind, open_on}
use Rattle.scip_site.specs.Laws.{TreeShowsFolders}
use Rattle.scip_site.proofs.TreeLemmas.{same_front}

-- ---- folders that begin

abbrev details : List ℕ → Tag
details id = tag_with (bare (codes "details")) (codes "id") id

abbrev open_tags : List ℕ → List Tag
open_tags id =
    bare (codes "li") ∷ (details id ∷ (bare (codes "summary") ∷ (bare (codes "/summary") ∷ (bare (codes "ul") ∷ []))))

open_reads : (above name : List ℕ)
    → Reads Data (open_text above name) Data (open_tags (folder_id (above ++ name)))
open_reads above name = by (length above == 0)
  where
    id : List ℕ
    id = folder_id (above ++ name)

    start : List ℕ
    start = codes "<li><details" ++ attribute (codes "id") id

    begun : Reads Data start (AttributeName (details id) []) (bare (codes "li") ∷ [])
    begun =
        chain (codes "<li><details id=\"") (escape id ++ codes "\"") (record { ends = refl; are = refl })
        (quoted_clean (bare (codes "details")) (codes "id") id (clean_folder_id (above ++ name)))

    named : (mark : List ℕ)
        → Reads Data (start ++ mark ++ codes "><summary>") Data
        (bare (codes "li") ∷ (details id ∷ (bare (codes "summary") ∷ [])))
        → Reads Data (start ++ mark ++ codes "><summary>" ++ escape name ++ codes "/</summary><ul>\n") Data
        (open_tags id)
    named mark reads =
        chain (start ++ mark ++ codes "><summary>" ++ escape name) (codes "/</summary><ul>\n")
        (chain (start ++ mark ++ codes "><summary>") (escape name) reads (escaped_reads name))
        (record { ends = refl; are = refl })

    by : (b : Bool)
        → Reads Data
        (start ++ cond b (codes " open") [] ++ codes "><summary>" ++ escape name ++ codes "/</summary><ul>\n") Data
        (open_tags id)
    by true =
        named (codes " open")
        (chain (start ++ codes " open") (codes "><summary>")
        (chain start (codes " open") begun (record { ends = refl; are = refl })) (record { ends = refl; are = refl }))
    by false =
        named []
        (chain (start ++ []) (codes "><summary>") (chain start [] begun (record { ends = refl; are = refl }))
        (record { ends = refl; are = refl }))

abbrev leaf_tags : List ℕ → List Tag
leaf_tags url = bare (codes "li") ∷ (tag_a (codes "href") url ∷ (end_a ∷ (bare (codes "/li") ∷ [])))

leaf_reads : (path : List ℕ) (names : List (List ℕ))
    → Reads Data (leaf_with path names) Data (leaf_tags (encoded (page_path path)))
leaf_reads path names =
    let url : List ℕ = encoded (page_path path) in
    let one : List ℕ = link url (last_of names) in
    chain (codes "<li>" ++ one) (codes "</li>\n")
    (chain (codes "<li>") one (record { ends = refl; are = refl })
    (link_reads url (last_of names) (clean_encoded (page_path path))))
    (record { ends = refl; are = refl })

-- ---- its URLs

module _ (P : List ℕ → Type 0) where
  fine_closes : (count : ℕ) → Fine P (closes count)
  fine_closes count =
      fine_each P (λ (n : ℕ). codes "</ul></details></li>\n") (range_with_len 0 count)
      (λ n is. fine_const P (codes "</ul></details></li>\n") refl refl)

  fine_open : (above name : List ℕ) → Fine P (open_text above name)
  fine_open above name =
      no_urls P (open_text above name) (open_tags (folder_id (above ++ name))) (open_reads above name) refl

  fine_opens : (kept : ℕ) (above : List ℕ) (names : List (List ℕ)) → Fine P (opens kept above names)
  fine_opens kept above [] = fine_const P [] refl refl
  fine_opens kept above (name ∷ names) =
      both P (open_or_none kept above name) (opens (kept - 1) (above ++ name ++ codes "/") names) (by (kept == 0))
      (fine_opens (kept - 1) (above ++ name ++ codes "/") names)
    where
      by : (b : Bool) → Fine P (cond b (open_text above name) [])
      by true = fine_open above name
      by false = fine_const P [] refl refl

  fine_leaf : (path : List ℕ) (names : List (List ℕ)) → P (encoded (page_path path)) → Fine P (leaf_with path names)
  fine_leaf path names p = record {
    tags = leaf_tags (encoded (page_path path));
    reads = leaf_reads path names;
    urls = (p, tt);
  }

  fine_step : (before path : List ℕ) → P (encoded (page_path path)) → Fine P (step before path)
  fine_step before path p =
      let open_ : List (List ℕ) = folder_of before in
      let names : List (List ℕ) = folder_of path in
      let kept : ℕ = common open_ names in
      both P (closes (length open_ - kept) ++ opens kept [] names) (leaf_with path (components path))
      (both P (closes (length open_ - kept)) (opens kept [] names) (fine_closes (length open_ - kept))
      (fine_opens kept [] names))
      (fine_leaf path (components path) p)

  pub fine_tree : (before : List ℕ) (paths : List (List ℕ))
      → ((path : List ℕ) → In path paths → P (encoded (page_path path))) → Fine P (tree before paths)
  fine_tree before [] leads = fine_closes (length (folder_of before))
  fine_tree before (path ∷ paths) leads =
      both P (step before path) (tree path paths) (fine_step before path (leads path (inl refl)))
      (fine_tree path paths (λ other is. leads other (inr is)))

  -- what is before the tree, and behind it
  pub fine_top : P (codes "pages.css")
      → Fine P (head_text (codes "index.html") (codes "Sources") ++ search_text)
  fine_top p =
      both P (head_text (codes "index.html") (codes "Sources")) search_text
      (fine_head P (codes "index.html") (codes "Sources") p) (fine_const P search_text refl refl)

  abbrev bottom : List ℕ
  bottom =
      codes "</ul>\n</main>\n<script src=\"symbols.js\"></script>\n<script src=\"search.js\"></script>\n</body>\n</html>\n"

  fine_bottom : P (codes "symbols.js") → P (codes "search.js") → Fine P bottom
  fine_bottom p q = record { tags = tags_of bottom; reads = record { ends = refl; are = refl }; urls = (p, (q, tt)) }

  pub fine_first : (paths : List (List ℕ)) → P (codes "pages.css") → P (codes "symbols.js") → P (codes "search.js")
      → ((path : List ℕ) → In path paths → P (encoded (page_path path))) → Fine P (first_page paths)
  fine_first paths style symbols search leads =
      let top : List ℕ = head_text (codes "index.html") (codes "Sources") ++ search_text in
      both P (top ++ tree [] paths) bottom (both P top (tree [] paths) (fine_top style) (fine_tree [] paths leads))
      (fine_bottom symbols search)

-- ---- the folders that are open round its links

all_append : (open_ : List (List ℕ)) (x y : List Tag) → all_open open_ (x ++ y) ≡ all_open (all_open open_ x) y
all_append open_ [] y = refl
all_append open_ (tag ∷ x) y = all_append (open_behind open_ tag) x y

leaves_append : (open_ : List (List ℕ)) (x y : List Tag)
    → leaves_behind open_ (x ++ y) ≡ leaves_behind open_ x ++ leaves_behind (all_open open_ x) y
leaves_append open_ [] y = refl
leaves_append open_ (tag ∷ x) y =
    let after : List (List ℕ) = open_behind open_ tag in
    ap (λ (l : List Leaf). leaves_in open_ tag ++ l) (leaves_append after x y)
    ∙ sym (append_assoc (leaves_in open_ tag) (leaves_behind after x) (leaves_behind (all_open after x) y))

record Nests (open_ : List (List ℕ)) (text : List ℕ) (leaves : List Leaf) (after : List (List ℕ)) : Type 0 where
  tags : List Tag
  reads : Reads Data text Data tags
  shown : leaves_behind open_ tags ≡ leaves
  left : all_open open_ tags ≡ after

nest : {o p q : List (List ℕ)} {l m : List Leaf} (x y : List ℕ) → Nests o x l p → Nests p y m q
    → Nests o (x ++ y) (l ++ m) q
nest {o} {p} {q} {l} {m} x y a b = record {
  tags = a.tags ++ b.tags;
  reads = chain x y a.reads b.reads;
  shown = leaves_append o a.tags b.tags ∙ ap (λ (r : List Leaf). r ++ leaves_behind (all_open o a.tags) b.tags) a.shown
      ∙ ap (λ (r : List (List ℕ)). l ++ leaves_behind r b.tags) a.left ∙ ap (λ (r : List Leaf). l ++ r) b.shown;
  left = all_append o a.tags b.tags ∙ ap (λ (r : List (List ℕ)). all_open r b.tags) a.left ∙ b.left;
}

-- ends of folders
taken : {X : Type 0} (xs : List X) (n : ℕ)
    → take (length (take (length xs - 1) xs) - n) (take (length xs - 1) xs) ≡ take (length xs - suc n) xs
taken xs n =
    let len : length (take (length xs - 1) xs) ≡ length xs - 1 = length-take-le (length xs - 1) xs (omega arith) in
    let less : length (take (length xs - 1) xs) - n ≡ length xs - suc n = omega (arith, len) in
    ap (λ (k : ℕ). take k (take (length xs - 1) xs)) less
    ∙ take-take (length xs - suc n) (length xs - 1) xs (omega arith)

closed : (open_ : List (List ℕ)) (a n : ℕ)
    → Nests open_ (flat_map (λ (n : ℕ). codes "</ul></details></li>\n") (range_with_len a n)) []
    (take (length open_ - n) open_)
closed open_ a zero =
    record {
      tags = [];
      reads = record { ends = refl; are = refl };
      shown = refl;
      left = sym (take_all (length open_ - 0) open_ (omega arith));
    }
closed open_ a (suc n) =
    let one : List ℕ = codes "</ul></details></li>\n" in
    let shorter : List (List ℕ) = take (length open_ - 1) open_ in
    subst (λ (after : List (List ℕ)). Nests open_
    (one ++ flat_map (λ (n : ℕ). one) (range_with_len (a + 1) n)) [] after)
    (taken open_ n)
    (nest one (flat_map (λ (n : ℕ). one) (range_with_len (a + 1) n))
    (record { tags = tags_of one; reads = record { ends = refl; are = refl }; shown = refl; left = refl })
    (closed shorter (a + 1) n))

one_less : (k : ℕ) → suc k - 1 ≡ k
one_less k = omega arith

opened : (open_ : List (List ℕ)) (kept : ℕ) (above : List ℕ) (names : List (List ℕ))
    → Nests open_ (opens kept above names) [] (open_ ++ map folder_id (drop kept (folders_on above names)))
opened open_ zero above [] = record {
  tags = [];
  reads = record { ends = refl; are = refl };
  shown = refl;
  left = sym (append-nil open_);
}
opened open_ (suc kept) above [] = record {
  tags = [];
  reads = record { ends = refl; are = refl };
  shown = refl;
  left = sym (append-nil open_);
}
opened open_ zero above (name ∷ names) =
    let id : List ℕ = folder_id (above ++ name) in
    let deeper : List ℕ = above ++ name ++ codes "/" in
    subst (Nests open_ (opens zero above (name ∷ names)) [])
    (append_assoc open_ (id ∷ []) (map folder_id (folders_on deeper names)))
    (nest (open_text above name) (opens zero deeper names)
    (record { tags = open_tags id; reads = open_reads above name; shown = refl; left = refl })
    (opened (open_ ++ id ∷ []) zero deeper names))
opened open_ (suc kept) above (name ∷ names) =
    let deeper : List ℕ = above ++ name ++ codes "/" in
    let same : opens kept deeper names ≡ opens (suc kept) above (name ∷ names) =
    sym (rw (not_none kept, one_less kept) refl) in
    subst (λ (text : List ℕ). Nests open_ text [] (open_ ++ map folder_id (drop kept (folders_on deeper names)))) same
    (opened open_ kept deeper names)

leaf_nests : (open_ : List (List ℕ)) (path : List ℕ) (names : List (List ℕ))
    → Nests open_ (leaf_with path names) (record { folders = open_; url = encoded (page_path path) } ∷ []) open_
leaf_nests open_ path names = record {
  tags = leaf_tags (encoded (page_path path));
  reads = leaf_reads path names;
  shown = refl;
  left = refl;
}

-- folders on two ways with a common start
folders_take : (k : ℕ) (above : List ℕ) (names : List (List ℕ))
    → folders_on above (take k names) ≡ take k (folders_on above names)
folders_take zero above names = refl
folders_take (suc k) above [] = refl
folders_take (suc k) above (name ∷ names) =
    ap (λ (l : List (List ℕ)). (above ++ name) ∷ l) (folders_take k (above ++ name ++ codes "/") names)

folders_long : (above : List ℕ) (names : List (List ℕ)) → length (folders_on above names) ≡ length names
folders_long above [] = refl
folders_long above (name ∷ names) = ap suc (folders_long (above ++ name ++ codes "/") names)

common_least : (open_ names : List (List ℕ)) → common open_ names ≤ length open_
common_least [] names = omega arith
common_least (a ∷ open_) [] = omega arith
common_least (a ∷ open_) (b ∷ names) = by (bytes_eq a b) (common_least open_ names)
  where
    by : (c : Bool) → common open_ names ≤ length open_
        → cond c (common open_ names + 1) 0 ≤ length (a ∷ open_)
    by true others = omega (arith, others)
    by false others = omega arith

joined : (open_ names : List (List ℕ))
    → let k : ℕ = common open_ names in
    take k (map folder_id (folders_on [] open_)) ++ map folder_id (drop k (folders_on [] names))
    ≡ map folder_id (folders_on [] names)
joined open_ names =
    let k : ℕ = common open_ names in
    let front : take k (map folder_id (folders_on [] open_)) ≡ map folder_id (take k (folders_on [] names)) =
    take-map folder_id k (folders_on [] open_)
    ∙ ap (map folder_id)
    (sym (folders_take k [] open_) ∙ ap (folders_on []) (sym (same_front open_ names)) ∙ folders_take k [] names) in
    ap (λ (l : List (List ℕ)). l ++ map folder_id (drop k (folders_on [] names))) front
    ∙ sym (map-append folder_id (take k (folders_on [] names)) (drop k (folders_on [] names)))
    ∙ ap (map folder_id) (take-append-drop k (folders_on [] names))

stepped : (before path : List ℕ) → Nests (open_on before) (step before path) (leaf_of path ∷ []) (open_on path)
stepped before path =
    let open_ : List (List ℕ) = folder_of before in
    let names : List (List ℕ) = folder_of path in
    let k : ℕ = common open_ names in
    let len : length (open_on before) ≡ length open_ =
    length-map (folders_on [] open_) folder_id ∙ folders_long [] open_ in
    let left : length (open_on before) - (length open_ - k) ≡ k = omega (arith, len, common_least open_ names) in
    let kept : Nests (open_on before) (closes (length open_ - k)) [] (take k (open_on before)) =
    subst (λ (n : ℕ). Nests (open_on before) (closes (length open_ - k)) [] (take n (open_on before))) left
    (closed (open_on before) 0 (length open_ - k)) in
    let begun : Nests (open_on before) (closes (length open_ - k) ++ opens k [] names) [] (open_on path) =
    subst (Nests (open_on before) (closes (length open_ - k) ++ opens k [] names) []) (joined open_ names)
    (nest (closes (length open_ - k)) (opens k [] names) kept (opened (take k (open_on before)) k [] names)) in
    nest (closes (length open_ - k) ++ opens k [] names) (leaf_with path (components path)) begun
    (leaf_nests (open_on path) path (components path))

tree_nests : (before : List ℕ) (paths : List (List ℕ))
    → Nests (open_on before) (tree before paths) (map leaf_of paths) []
tree_nests before [] =
    let len : length (open_on before) ≡ length (folder_of before) =
    length-map (folders_on [] (folder_of before)) folder_id ∙ folders_long [] (folder_of before) in
    let none : length (open_on before) - length (folder_of before) ≡ 0 = omega (arith, len) in
    subst (λ (n : ℕ). Nests (open_on before) (closes (length (folder_of before))) [] (take n (open_on before))) none
    (closed (open_on before) 0 (length (folder_of before)))
tree_nests before (path ∷ paths) =
    nest (step before path) (tree path paths) (stepped before path) (tree_nests path paths)

page_nests : (paths : List (List ℕ)) → Nests [] (first_page paths) (map leaf_of paths) []
page_nests paths =
    let top : List ℕ = head_text (codes "index.html") (codes "Sources") ++ search_text in
    let end : List ℕ =
    codes "</ul>\n</main>\n<script src=\"symbols.js\"></script>\n<script src=\"search.js\"></script>\n</body>\n</html>\n" in
    subst (λ (leaves : List Leaf). Nests [] (first_page paths) leaves []) (append-nil (map leaf_of paths))
    (nest (top ++ tree [] paths) end
    (nest top (tree [] paths)
    (record { tags = tags_of top; reads = record { ends = refl; are = refl }; shown = refl; left = refl })
    (tree_nests [] paths))
    (record { tags = tags_of end; reads = record { ends = refl; are = refl }; shown = refl; left = refl }))

pub tree_shows_folders : TreeShowsFolders
tree_shows_folders paths =
    let page = page_nests paths in
    (ap (leaves_behind []) page.reads.are ∙ page.shown, ap (all_open []) page.reads.are ∙ page.left)
