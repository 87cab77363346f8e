-- Paths of pages.
use Rattle.std.proofs.Common.{◌≡◌, ◌∙◌, sym, refl, ap, ℕ, ◌+◌, ◌<◌, ◌==◌, Bool, true, false, ◌||◌, List, [], ◌∷◌}
use Rattle.std.proofs.Common.{◌++◌, nat_eq, length, drop, arith}
use Rattle.std.specs.Prelude.{codes, not, ◌&&◌}
use Rattle.std.specs.List.{list_any, starts_with}
use Rattle.std.specs.Str.{bytes_eq}
use Rattle.std.proofs.lemmas.List.{length-append}
use Rattle.std.proofs.lemmas.Slice.Eq.{bytes_eq-Decides}
use Rattle.scip_pages.specs.Paths.{components, has_name}
use Rattle.scip_pages.specs.Urls.{decoded, encoded}
use Rattle.scip_pages.proofs.UrlLemmas.{is_decoded}
use Rattle.scip_site.specs.Laws.{HasAGoodPath, HasItsOwnPath, FoldersHaveTheirOwnIds}
use Rattle.scip_site.proofs.FolderLawMarkLemmas.{page_components, same_page}

-- The last component of a path is the longer one of a longer path.
record IsLonger (path : List ℕ) : Type 0 where
  before : List (List ℕ)
  last : List ℕ
  are : components path ≡ before ++ last ∷ []
  become : components (path ++ codes ".html") ≡ before ++ (last ++ codes ".html") ∷ []

-- a byte in front of a path that isn't a slash
front : (b : ℕ) (before : List (List ℕ)) (last : List ℕ) (path : List ℕ)
    → components path ≡ before ++ last ∷ []
    → components (path ++ codes ".html") ≡ before ++ (last ++ codes ".html") ∷ []
    → (b == 47) ≡ false → IsLonger (b ∷ path)
front b [] last path are become e = record {
  before = [];
  last = b ∷ last;
  are = rw (e, are) refl;
  become = rw (e, become) refl;
}
front b (first ∷ before) last path are become e = record {
  before = (b ∷ first) ∷ before;
  last = last;
  are = rw (e, are) refl;
  become = rw (e, become) refl;
}

longer : (path : List ℕ) → IsLonger path
longer [] = record { before = []; last = []; are = refl; become = refl }
longer (b ∷ path) = by (b == 47) refl (longer path)
  where
    by : (c : Bool) → (b == 47) ≡ c → IsLonger path → IsLonger (b ∷ path)
    by true e rest = record {
      before = [] ∷ rest.before;
      last = rest.last;
      are = rw (e, rest.are) refl;
      become = rw (e, rest.become) refl;
    }
    by false e rest = front b rest.before rest.last path rest.are rest.become e

-- it is none of the short names
is_other : (name other : List ℕ) → length other < length name → bytes_eq name other ≡ false
is_other name other short = by (bytes_eq name other) refl
  where
    by : (b : Bool) → bytes_eq name other ≡ b → b ≡ false
    by true e = absurd (omega (arith, short, ap length ((bytes_eq-Decides name other).0 e)))
    by false e = refl

abbrev is_among : List ℕ → List (List ℕ) → Bool
is_among name names = list_any (λ (other : List ℕ). bytes_eq other name) names

still_none : (name : List ℕ) (before : List (List ℕ)) (last longer_one : List ℕ)
    → bytes_eq longer_one name ≡ false → is_among name (before ++ last ∷ []) ≡ false
    → is_among name (before ++ longer_one ∷ []) ≡ false
still_none name [] last longer_one other none = rw other refl
still_none name (first ∷ before) last longer_one other none =
    by (bytes_eq first name) refl none (λ n. still_none name before last longer_one other n)
  where
    by : (b : Bool) → bytes_eq first name ≡ b → (b || is_among name (before ++ last ∷ [])) ≡ false
        → (is_among name (before ++ last ∷ []) ≡ false → is_among name (before ++ longer_one ∷ []) ≡ false)
        → (b || is_among name (before ++ longer_one ∷ [])) ≡ false
    by true e n others = absurd cc
    by false e n others = others n

none_there : (name path : List ℕ) → length name < 5 → has_name name path ≡ false
    → is_among name (components (path ++ codes ".html")) ≡ false
none_there name path short none =
    let longer_path = longer path in
    let size : length (longer_path.last ++ codes ".html") ≡ length longer_path.last + 5 =
    length-append longer_path.last (codes ".html") in
    ap (is_among name) longer_path.become
    ∙ still_none name longer_path.before longer_path.last (longer_path.last ++ codes ".html")
    (is_other (longer_path.last ++ codes ".html") name (omega (arith, short, size)))
    (sym (ap (is_among name) longer_path.are) ∙ none)

-- in the path of a page each test failed
none_by : (a b c d e f g : Bool)
    → (not a && not b && not c && not d) ≡ true
    → (b ≡ false → e ≡ false) → (c ≡ false → f ≡ false) → (d ≡ false → g ≡ false)
    → (not e && not f && not g) ≡ true
none_by true b c d e f g none x y z = absurd cc
none_by false true c d e f g none x y z = absurd cc
none_by false false true d e f g none x y z = absurd cc
none_by false false false true e f g none x y z = absurd cc
none_by false false false false e f g none x y z = rw (x refl, y refl, z refl) refl

-- whether a path that isn't absolute is that of a page, by its components
abbrev below_by : List (List ℕ) → Bool
below_by names =
    not (is_among (codes "") names) && not (is_among (codes ".") names) && not (is_among (codes "..") names)

pub has_a_good_path : HasAGoodPath
has_a_good_path path none =
    let names : List (List ℕ) = components (path ++ codes ".html") in
    ap below_by (page_components path)
    ∙ none_by (starts_with nat_eq path (codes "/")) (has_name (codes "") path) (has_name (codes ".") path)
    (has_name (codes "..") path) (is_among (codes "") names) (is_among (codes ".") names) (is_among (codes "..") names)
    none
    (none_there (codes "") path (omega arith))
    (none_there (codes ".") path (omega arith))
    (none_there (codes "..") path (omega arith))

pub has_its_own_path : HasItsOwnPath
has_its_own_path path other same = same_page path other same

pub have_their_own_ids : FoldersHaveTheirOwnIds
have_their_own_ids folder other small small_other same =
    let url : encoded folder ≡ encoded other = ap (drop 2) same in
    sym (is_decoded folder small) ∙ ap decoded url ∙ is_decoded other small_other
