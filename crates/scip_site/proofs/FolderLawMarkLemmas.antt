-- The marks of folders in the paths of pages, by which no page is where another has a folder.
use Rattle.std.proofs.Common.{◌≡◌, ◌≢◌, ◌∙◌, sym, refl, ap, subst, ℕ, ◌+◌, ◌≤◌, Bool, true, false, cond, List, [], ◌∷◌}
use Rattle.std.proofs.Common.{◌++◌, drop, length, append_assoc, arith}
use Rattle.std.specs.Prelude.{codes}
use Rattle.std.specs.List.{AllByRecursion, onto_first}
use Rattle.std.proofs.lemmas.Bool.Decides.{Decides-eqb}
use Rattle.std.proofs.lemmas.List.{append_cancel_left, append_cancel_right, length-append}
use Rattle.std.proofs.lemmas.Slice.Eq.{starts_is}
use Rattle.scip_pages.specs.Paths.{components}
use Rattle.scip_pages.specs.Site.{page_path}
use Rattle.scip_pages.proofs.SiteFolderLemmas.{is_marked, mark_at, scanned, scanned_is}

-- ---- a path in parts

pub regrouped : (path : List ℕ) → page_path path ≡ codes "src" ++ (scanned path ++ 47 ∷ (path ++ codes ".html"))
regrouped path =
    let top : List ℕ = codes "src" ++ scanned path in
    ap (λ (marks : List ℕ). codes "src" ++ marks ++ codes "/" ++ path ++ codes ".html") (sym (scanned_is path))
    ∙ append_assoc (top ++ codes "/") path (codes ".html")
    ∙ append_assoc top (codes "/") (path ++ codes ".html")
    ∙ append_assoc (codes "src") (scanned path) (47 ∷ (path ++ codes ".html"))

abbrev IsMark : ℕ → Type 0
IsMark b = b ≡ 126

all_append : (xs ys : List ℕ) → AllByRecursion IsMark xs → AllByRecursion IsMark ys → AllByRecursion IsMark (xs ++ ys)
all_append [] ys a b = b
all_append (x ∷ xs) ys a b = (a.0, all_append xs ys a.1 b)

all_marks : (path : List ℕ) → AllByRecursion IsMark (scanned path)
all_marks [] = tt
all_marks (b ∷ path) =
    all_append (mark_at (b ∷ path)) (scanned path) (by (is_marked (b ∷ path))) (all_marks path)
  where
    by : (c : Bool) → AllByRecursion IsMark (cond c (codes "~") [])
    by true = (refl, tt)
    by false = tt

-- marks, and what is behind the slash behind them
split_marks : (m n x y : List ℕ) → AllByRecursion IsMark m → AllByRecursion IsMark n → m ++ 47 ∷ x ≡ n ++ 47 ∷ y
    → (m ≡ n) × (x ≡ y)
split_marks [] [] x y a b e = (refl, cc)
split_marks [] (d ∷ n) x y a b e = let same : 47 ≡ d = cc in absurd (omega (arith, same, b.0))
split_marks (c ∷ m) [] x y a b e = let same : c ≡ 47 = cc in absurd (omega (arith, same, a.0))
split_marks (c ∷ m) (d ∷ n) x y a b e =
    let behind : m ++ 47 ∷ x ≡ n ++ 47 ∷ y = cc in
    let both = split_marks m n x y a.1 b.1 behind in
    (ap (λ (k : ℕ). k ∷ m) (a.0 ∙ sym b.0) ∙ ap (λ (l : List ℕ). d ∷ l) both.0, both.1)

-- no slash is in them
first_component : (m rest : List ℕ) → AllByRecursion IsMark m → components (m ++ 47 ∷ rest) ≡ m ∷ components rest
first_component [] rest all = refl
first_component (b ∷ m) rest all =
    subst (λ (c : ℕ). components (c ∷ (m ++ 47 ∷ rest)) ≡ (c ∷ m) ∷ components rest) (sym all.0)
    (ap (onto_first 126) (first_component m rest all.1))

pub page_components : (path : List ℕ)
    → components (page_path path) ≡ (codes "src" ++ scanned path) ∷ components (path ++ codes ".html")
page_components path =
    ap components (regrouped path)
    ∙ ap (λ (names : List (List ℕ)). onto_first 115 (onto_first 114 (onto_first 99 names)))
    (first_component (scanned path) (path ++ codes ".html") (all_marks path))

pub same_page : (path other : List ℕ) → page_path path ≡ page_path other → path ≡ other
same_page path other same =
    let marked : scanned path ++ 47 ∷ (path ++ codes ".html") ≡ scanned other ++ 47 ∷ (other ++ codes ".html") =
    append_cancel_left (codes "src") (scanned path ++ 47 ∷ (path ++ codes ".html"))
    (scanned other ++ 47 ∷ (other ++ codes ".html")) (sym (regrouped path) ∙ same ∙ regrouped other) in
    append_cancel_right path other (codes ".html")
    (split_marks (scanned path) (scanned other) (path ++ codes ".html") (other ++ codes ".html")
    (all_marks path) (all_marks other) marked).1

-- ---- how many marks there are

-- the end of a page's name ends no folder's
ends_no_folder : (rest : List ℕ) → is_marked (rest ++ codes ".html") ≡ is_marked rest
ends_no_folder [] = refl
ends_no_folder (a ∷ []) = refl
ends_no_folder (a ∷ (b ∷ [])) = refl
ends_no_folder (a ∷ (b ∷ (c ∷ []))) = refl
ends_no_folder (a ∷ (b ∷ (c ∷ (d ∷ [])))) = refl
ends_no_folder (a ∷ (b ∷ (c ∷ (d ∷ (e ∷ []))))) = refl
ends_no_folder (a ∷ (b ∷ (c ∷ (d ∷ (e ∷ (f ∷ rest)))))) = refl

marks_of_page : (path : List ℕ) → scanned (path ++ codes ".html") ≡ scanned path
marks_of_page [] = refl
marks_of_page (b ∷ path) =
    ap (λ (c : Bool). cond c (codes "~") [] ++ scanned (path ++ codes ".html")) (ends_no_folder (b ∷ path))
    ∙ ap (λ (l : List ℕ). mark_at (b ∷ path) ++ l) (marks_of_page path)

still_marked : (rest more : List ℕ) → is_marked rest ≡ true → is_marked (rest ++ more) ≡ true
still_marked rest more e =
    let name : List ℕ = codes ".html/" in
    let behind : List ℕ = drop (length name) rest in
    let parts : rest ≡ name ++ behind = (starts_is Decides-eqb rest name (is_marked rest) refl).0 e in
    (starts_is Decides-eqb (rest ++ more) name (is_marked (rest ++ more)) refl).1 (behind ++ more)
    (ap (λ (l : List ℕ). l ++ more) parts ∙ append_assoc name behind more)

mark_stays : (rest more : List ℕ) → length (mark_at rest) ≤ length (mark_at (rest ++ more))
mark_stays rest more = by (is_marked rest) refl (is_marked (rest ++ more)) (still_marked rest more)
  where
    by : (b : Bool) → is_marked rest ≡ b → (c : Bool) → (is_marked rest ≡ true → c ≡ true)
        → length (cond b (codes "~") []) ≤ length (cond c (codes "~") [])
    by true e true still = omega arith
    by true e false still = let clash : false ≡ true = still e in absurd cc
    by false e c still = omega arith

-- of a longer path as many of each part, or more
marks_of_both : (path more : List ℕ)
    → length (scanned path) + length (scanned more) ≤ length (scanned (path ++ more))
marks_of_both [] more = omega arith
marks_of_both (b ∷ path) more =
    let here = mark_stays (b ∷ path) more in
    let behind = marks_of_both path more in
    let one : length (scanned (b ∷ path)) ≡ length (mark_at (b ∷ path)) + length (scanned path) =
    length-append (mark_at (b ∷ path)) (scanned path) in
    let both : length (scanned ((b ∷ path) ++ more))
    ≡ length (mark_at ((b ∷ path) ++ more)) + length (scanned (path ++ more)) =
    length-append (mark_at ((b ∷ path) ++ more)) (scanned (path ++ more)) in
    omega (arith, here, behind, one, both)

first_mark : (behind : List ℕ)
    → scanned (codes ".html/" ++ behind) ≡ 126 ∷ scanned (codes "html/" ++ behind)
first_mark behind = refl

size_of_folder : (behind : List ℕ)
    → length (scanned (codes ".html/" ++ behind)) ≡ length (scanned (codes "html/" ++ behind)) + 1
size_of_folder behind =
    let more : length (126 ∷ scanned (codes "html/" ++ behind)) ≡ length (scanned (codes "html/" ++ behind)) + 1 =
    omega arith in ap length (first_mark behind) ∙ more

-- ---- no page is where another has a folder

pub no_folder_of_pages : (path other behind : List ℕ) → page_path other ≢ page_path path ++ (codes "/" ++ behind)
no_folder_of_pages path other behind same =
    let folder : List ℕ = codes ".html/" ++ behind in
    let page : List ℕ = 47 ∷ (path ++ codes ".html") in
    let below : page_path path ++ (47 ∷ behind) ≡ codes "src" ++ (scanned path ++ 47 ∷ (path ++ folder)) =
    ap (λ (l : List ℕ). l ++ (47 ∷ behind)) (regrouped path)
    ∙ append_assoc (codes "src") (scanned path ++ page) (47 ∷ behind)
    ∙ ap (λ (l : List ℕ). codes "src" ++ l)
    (append_assoc (scanned path) page (47 ∷ behind)
    ∙ ap (λ (l : List ℕ). scanned path ++ 47 ∷ l) (append_assoc path (codes ".html") (47 ∷ behind))) in
    let marked : scanned other ++ 47 ∷ (other ++ codes ".html") ≡ scanned path ++ 47 ∷ (path ++ folder) =
    append_cancel_left (codes "src") (scanned other ++ 47 ∷ (other ++ codes ".html"))
    (scanned path ++ 47 ∷ (path ++ folder)) (sym (regrouped other) ∙ same ∙ below) in
    let parts = split_marks (scanned other) (scanned path) (other ++ codes ".html") (path ++ folder)
    (all_marks other) (all_marks path) marked in
    let as_many : length (scanned (path ++ folder)) ≡ length (scanned path) =
    ap (λ (l : List ℕ). length (scanned l)) (sym parts.1) ∙ ap length (marks_of_page other ∙ parts.0) in
    let one_more : 1 ≤ length (scanned folder) = omega (arith, size_of_folder behind) in
    omega (arith, as_many, one_more, marks_of_both path folder)
