-- The marks of the folders on a path, as they are found byte by byte.
use Rattle.std.proofs.Common.{◌≡◌, ◌∙◌, sym, refl, ap, subst, ℕ, suc, ◌-◌, ◌==◌, Bool, true, false, cond, List, [], ◌∷◌}
use Rattle.std.proofs.Common.{◌++◌, ◌<◌, take, drop, length, nat_eq, append_assoc, append-nil, arith}
use Rattle.std.specs.Prelude.{codes}
use Rattle.std.specs.List.{AllByRecursion, ends_with, flat_map, join_with_byte, onto_first, starts_with}
use Rattle.std.proofs.lemmas.Bool.Decides.{Decides-eqb}
use Rattle.std.proofs.lemmas.List.Splits.{join_with_byte-slice_split}
use Rattle.std.proofs.lemmas.Slice.Eq.{starts_is, ends_is}
use Rattle.scip_pages.specs.Paths.{components}
use Rattle.scip_pages.specs.Site.{folder_marks, mark_of}

-- where the end of the name of such a folder begins, there is a mark
abbrev pub is_marked : List ℕ → Bool
is_marked rest = starts_with nat_eq rest (codes ".html/")

abbrev pub mark_at : List ℕ → List ℕ
mark_at rest = cond (is_marked rest) (codes "~") []

abbrev pub scanned : List ℕ → List ℕ
scanned [] = []
scanned (b ∷ path) = mark_at (b ∷ path) ++ scanned path

-- ---- names have no slash

abbrev IsNameByte : ℕ → Type 0
IsNameByte b = (b == 47) ≡ false

abbrev IsName : List ℕ → Type 0
IsName name = AllByRecursion IsNameByte name

onto_name : (b : ℕ) (names : List (List ℕ)) → IsNameByte b → AllByRecursion IsName names
    → AllByRecursion IsName (onto_first b names)
onto_name b [] e all = ((e, tt), tt)
onto_name b (name ∷ names) e all = ((e, all.0), all.1)

are_names : (path : List ℕ) → AllByRecursion IsName (components path)
are_names [] = (tt, tt)
are_names (b ∷ path) = by (b == 47) refl (are_names path)
  where
    by : (c : Bool) → (b == 47) ≡ c → AllByRecursion IsName (components path)
        → AllByRecursion IsName (cond c ([] ∷ components path) (onto_first b (components path)))
    by true e all = (tt, all)
    by false e all = onto_name b (components path) e all

-- so two in front of slashes are one, if what they begin is one
same_names : (m n x y : List ℕ) → IsName m → IsName n → m ++ 47 ∷ x ≡ n ++ 47 ∷ y → m ≡ n
same_names [] [] x y a b e = refl
same_names [] (d ∷ n) x y a b e =
    let same : d ≡ 47 = cc in
    let clash : true ≡ false = subst (λ (k : ℕ). (k == 47) ≡ false) same b.0 in absurd cc
same_names (c ∷ m) [] x y a b e =
    let same : c ≡ 47 = cc in
    let clash : true ≡ false = subst (λ (k : ℕ). (k == 47) ≡ false) same a.0 in absurd cc
same_names (c ∷ m) (d ∷ n) x y a b e =
    let first : c ≡ d = cc in
    let behind : m ++ 47 ∷ x ≡ n ++ 47 ∷ y = cc in
    ap (λ (k : ℕ). k ∷ m) first ∙ ap (λ (l : List ℕ). d ∷ l) (same_names m n x y a.1 b.1 behind)

-- ---- the mark of a name

abbrev ends : List ℕ → Bool
ends name = ends_with nat_eq name (codes ".html")

ends_so : (name front : List ℕ) → name ≡ front ++ codes ".html" → ends name ≡ true
ends_so name front same = (ends_is Decides-eqb name (codes ".html") (ends name) refl).1 front same

abbrev front_of : List ℕ → List ℕ
front_of name = take (length name - 5) name

ends_by : (name : List ℕ) → ends name ≡ true → name ≡ front_of name ++ codes ".html"
ends_by name e = (ends_is Decides-eqb name (codes ".html") (ends name) refl).0 e

-- A name in front of a slash has it where it begins, or behind that.
module _ (b : ℕ) (name rest : List ℕ) (all : IsName (b ∷ name)) where
  is_whole : is_marked ((b ∷ name) ++ 47 ∷ rest) ≡ true → b ∷ name ≡ codes ".html"
  is_whole e =
      let text : List ℕ = (b ∷ name) ++ 47 ∷ rest in
      same_names (b ∷ name) (codes ".html") rest (drop 6 text) all (refl, (refl, (refl, (refl, (refl, tt)))))
      ((starts_is Decides-eqb text (codes ".html/") (is_marked text) refl).0 e)

  mark_joined : mark_at ((b ∷ name) ++ 47 ∷ rest) ++ mark_of name ≡ mark_of (b ∷ name)
  mark_joined = by (is_marked ((b ∷ name) ++ 47 ∷ rest)) refl (ends name) refl (ends (b ∷ name)) refl
    where
      by_front : (front : List ℕ) → b ∷ name ≡ front ++ codes ".html" → ends name ≡ false
          → is_marked ((b ∷ name) ++ 47 ∷ rest) ≡ false → [] ≡ codes "~"
      by_front [] same none unmarked =
          let clash : true ≡ false = subst (λ (n : List ℕ). is_marked (n ++ 47 ∷ rest) ≡ false) same unmarked in
          absurd cc
      by_front (c ∷ front) same none unmarked =
          let behind : name ≡ front ++ codes ".html" = cc in
          let clash : true ≡ false = sym (ends_so name front behind) ∙ none in absurd cc

      by : (s : Bool) → is_marked ((b ∷ name) ++ 47 ∷ rest) ≡ s → (i : Bool) → ends name ≡ i
          → (o : Bool) → ends (b ∷ name) ≡ o
          → cond s (codes "~") [] ++ cond i (codes "~") [] ≡ cond o (codes "~") []
      by true e true f o g =
          let html : name ≡ codes "html" = ap (drop 1) (is_whole e) in
          let clash : false ≡ true = subst (λ (n : List ℕ). ends n ≡ true) html f in absurd cc
      by true e false f true g = refl
      by true e false f false g =
          let clash : true ≡ false = subst (λ (n : List ℕ). ends n ≡ false) (is_whole e) g in absurd cc
      by false e true f true g = refl
      by false e true f false g =
          let so : ends (b ∷ name) ≡ true =
          ends_so (b ∷ name) (b ∷ front_of name) (ap (λ (l : List ℕ). b ∷ l) (ends_by name f)) in
          let clash : true ≡ false = sym so ∙ g in absurd cc
      by false e false f false g = refl
      by false e false f true g = by_front (front_of (b ∷ name)) (ends_by (b ∷ name) g) f e

scanned_name : (name rest : List ℕ) → IsName name → scanned (name ++ 47 ∷ rest) ≡ mark_of name ++ scanned rest
scanned_name [] rest all = refl
scanned_name (b ∷ name) rest all =
    ap (λ (l : List ℕ). mark_at ((b ∷ name) ++ 47 ∷ rest) ++ l) (scanned_name name rest all.1)
    ∙ sym (append_assoc (mark_at ((b ∷ name) ++ 47 ∷ rest)) (mark_of name) (scanned rest))
    ∙ ap (λ (l : List ℕ). l ++ scanned rest) (mark_joined b name rest all)

-- The last name has none.
unmarked : (name : List ℕ) → IsName name → mark_at name ≡ []
unmarked name all = by (is_marked name) refl
  where
    by : (s : Bool) → is_marked name ≡ s → cond s (codes "~") [] ≡ []
    by false e = refl
    by true e =
        let parts : name ≡ codes ".html/" ++ drop 6 name =
        (starts_is Decides-eqb name (codes ".html/") (is_marked name) refl).0 e in
        let those : IsName (codes ".html/" ++ drop 6 name) = subst IsName parts all in
        let clash : true ≡ false = those.1.1.1.1.1.0 in absurd cc

scanned_last : (name : List ℕ) → IsName name → scanned name ≡ []
scanned_last [] all = refl
scanned_last (b ∷ name) all =
    ap (λ (l : List ℕ). l ++ scanned name) (unmarked (b ∷ name) all) ∙ scanned_last name all.1

-- ---- the marks of a path

abbrev marks_in : List (List ℕ) → List ℕ
marks_in names = flat_map mark_of (take (length names - 1) names)

marks_more : (name other : List ℕ) (others : List (List ℕ))
    → marks_in (name ∷ (other ∷ others)) ≡ mark_of name ++ marks_in (other ∷ others)
marks_more name other others =
    let size : length (name ∷ (other ∷ others)) - 1 ≡ suc (length (other ∷ others) - 1) = omega arith in
    ap (λ (n : ℕ). flat_map mark_of (take n (name ∷ (other ∷ others)))) size

scanned_names : (names : List (List ℕ)) → AllByRecursion IsName names
    → scanned (join_with_byte 47 names) ≡ marks_in names
scanned_names [] all = refl
scanned_names (name ∷ []) all = scanned_last name all.0
scanned_names (name ∷ (other ∷ others)) all =
    scanned_name name (join_with_byte 47 (other ∷ others)) all.0
    ∙ ap (λ (l : List ℕ). mark_of name ++ l) (scanned_names (other ∷ others) all.1)
    ∙ sym (marks_more name other others)

pub scanned_is : (path : List ℕ) → scanned path ≡ folder_marks path
scanned_is path =
    ap scanned (sym (join_with_byte-slice_split 47 path)) ∙ scanned_names (components path) (are_names path)

-- The marks that are found, where nothing is left, are those of the path.
pub scanned_all : (marks rest path : List ℕ) → length rest < 1 → marks ++ scanned rest ≡ scanned path
    → marks ≡ folder_marks path
scanned_all marks [] path few so = sym (append-nil marks) ∙ so ∙ scanned_is path
scanned_all marks (b ∷ rest) path few so = absurd (omega (arith, few))
