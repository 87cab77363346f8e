-- URLs of pages, by the paths of their documents.
use Rattle.std.proofs.Common.{◌≡◌, ◌∙◌, refl, ap, ℕ, Bool, true, false, cond, List, [], ◌∷◌, ◌++◌, append-nil, sym}
use Rattle.std.proofs.Common.{nat_eq}
use Rattle.std.specs.Prelude.{codes}
use Rattle.std.specs.List.{ends_with, flat_map}
use Rattle.std.proofs.lemmas.Grind.{flat_map-append}
use Rattle.scip_pages.specs.Urls.{up, ups, encoded, encoded_byte, folder_of}
use Rattle.scip_pages.specs.Site.{folder_marks, mark_of, page_path}

-- ---- the marks of folders, of which a URL has each as it is, and none leads up

abbrev is_like_a_page : List ℕ → Bool
is_like_a_page name = ends_with nat_eq name (codes ".html")

encoded_all : (names : List (List ℕ)) → encoded (flat_map mark_of names) ≡ flat_map mark_of names
encoded_all [] = refl
encoded_all (name ∷ names) =
    flat_map-append encoded_byte (mark_of name) (flat_map mark_of names)
    ∙ ap (λ (l : List ℕ). l ++ encoded (flat_map mark_of names)) (by (is_like_a_page name))
    ∙ ap (λ (l : List ℕ). mark_of name ++ l) (encoded_all names)
  where
    by : (c : Bool) → encoded (cond c (codes "~") []) ≡ cond c (codes "~") []
    by true = refl
    by false = refl

encoded_marks : (path : List ℕ) → encoded (folder_marks path) ≡ folder_marks path
encoded_marks path = encoded_all (folder_of path)

ups_all : (names : List (List ℕ)) → ups (flat_map mark_of names) ≡ []
ups_all [] = refl
ups_all (name ∷ names) =
    flat_map-append up (mark_of name) (flat_map mark_of names)
    ∙ ap (λ (l : List ℕ). l ++ ups (flat_map mark_of names)) (by (is_like_a_page name))
    ∙ ups_all names
  where
    by : (c : Bool) → ups (cond c (codes "~") []) ≡ []
    by true = refl
    by false = refl

ups_marks : (path : List ℕ) → ups (folder_marks path) ≡ []
ups_marks path = ups_all (folder_of path)

-- the folder that a page is below
abbrev start : List ℕ → List ℕ
start path = codes "src" ++ folder_marks path ++ codes "/"

ups_start : (path : List ℕ) → ups (start path) ≡ codes "../"
ups_start path =
    flat_map-append up (folder_marks path) (codes "/") ∙ ap (λ (l : List ℕ). l ++ codes "../") (ups_marks path)

encoded_start : (path : List ℕ) → encoded (start path) ≡ start path
encoded_start path =
    ap (λ (l : List ℕ). codes "src" ++ l)
    (flat_map-append encoded_byte (folder_marks path) (codes "/")
    ∙ ap (λ (l : List ℕ). l ++ codes "/") (encoded_marks path))

-- ---- paths

pub ups_page : (path : List ℕ) → codes "../" ++ ups path ≡ ups (page_path path)
ups_page path =
    sym (flat_map-append up (start path ++ path) (codes ".html")
    ∙ append-nil (ups (start path ++ path))
    ∙ flat_map-append up (start path) path
    ∙ ap (λ (l : List ℕ). l ++ ups path) (ups_start path))

pub encoded_page : (path : List ℕ)
    → codes "src" ++ folder_marks path ++ codes "/" ++ encoded path ++ codes ".html" ≡ encoded (page_path path)
encoded_page path =
    sym (flat_map-append encoded_byte (start path ++ path) (codes ".html")
    ∙ ap (λ (l : List ℕ). l ++ codes ".html")
    (flat_map-append encoded_byte (start path) path ∙ ap (λ (l : List ℕ). l ++ encoded path) (encoded_start path)))
