-- No file of all pages is where another has a folder.
use Rattle.std.proofs.Common.{◌≡◌, ◌≢◌, ◌∙◌, sym, refl, ap, ℕ, ◌==◌, Bool, true, false, ◌||◌, List, [], ◌∷◌, ◌++◌}
use Rattle.std.proofs.Common.{get_or, length, arith, ◌⊎◌, inl, inr}
use Rattle.std.specs.Prelude.{codes, Option, None, Some}
use Rattle.std.specs.List.{AllByRecursion, list_any}
use Rattle.basics.proofs.ListLemmas.{each_weaker as weaker}
use Rattle.source_files.specs.Made.{MadeFile}
use Rattle.scip_records.specs.declared.records.Index.{Index}
use Rattle.scip_query.specs.Tables.{numbers, path_listed}
use Rattle.scip_pages.specs.Site.{Sources, page_path}
use Rattle.scip_pages.proofs.TagLemmas.{all_append}
use Rattle.scip_site.specs.FolderLaws.{FilesAreNoFolders, IsNoFolder}
use Rattle.scip_site.specs.Making.{page_at, page_file, page_file_at, pages, paths_in, script_text, shared, site_files}
use Rattle.scip_site.specs.Tree.{first_page}
use Rattle.scip_site.proofs.ReadingGoodLemmas.{each_of}
use Rattle.scip_site.proofs.FolderLawMarkLemmas.{no_folder_of_pages}

-- the path of a page; or one without a slash, whose second letter is another
abbrev OfPage : List ℕ → Type 0
OfPage path = (d : List ℕ) × (path ≡ page_path d)

abbrev has_slash : List ℕ → Bool
has_slash path = list_any (λ b. b == 47) path

record OfAll (path : List ℕ) : Type 0 where
  none : has_slash path ≡ false
  other : (behind : List ℕ) → get_or (path ++ behind) 1 0 ≢ 114

abbrev IsKnown : MadeFile → Type 0
IsKnown made = OfPage made.path ⊎ OfAll made.path

-- what is below a folder has a slash
below_folder : (path behind : List ℕ) → has_slash (path ++ 47 ∷ behind) ≡ true
below_folder [] behind = refl
below_folder (b ∷ path) behind = by (b == 47) (below_folder path behind)
  where
    by : (c : Bool) → has_slash (path ++ 47 ∷ behind) ≡ true → (c || has_slash (path ++ 47 ∷ behind)) ≡ true
    by true others = refl
    by false others = others

apart : (made other : MadeFile) → IsKnown made → IsKnown other → IsNoFolder made other
apart made other is (inr all) behind same =
    let clash : false ≡ true = sym all.none ∙ ap has_slash same ∙ below_folder made.path behind in absurd cc
apart made other (inl page) (inl another) behind same =
    no_folder_of_pages page.0 another.0 behind
    (sym another.1 ∙ same ∙ ap (λ (l : List ℕ). l ++ (codes "/" ++ behind)) page.1)
apart made other (inr all) (inl another) behind same =
    all.other (codes "/" ++ behind) (ap (λ (l : List ℕ). get_or l 1 0) (sym same ∙ another.1))

page_known : (path : List ℕ) (page : Option (List ℕ)) → AllByRecursion IsKnown (page_file path page)
page_known path None = tt
page_known path (Some page) = (inl (path, refl), tt)

shared_known : (script first : List ℕ) → AllByRecursion IsKnown (shared script first)
shared_known script first = (
  inr record { none = refl; other = λ behind e. let same : 97 ≡ 114 = e in omega (arith, same) },
  (
    inr record { none = refl; other = λ behind e. let same : 101 ≡ 114 = e in omega (arith, same) },
    (
      inr record { none = refl; other = λ behind e. let same : 121 ≡ 114 = e in omega (arith, same) },
      (inr record { none = refl; other = λ behind e. let same : 110 ≡ 114 = e in omega (arith, same) }, tt),
    ),
  ),
)

all_known : (index : Index) (sources : Sources) (order : List ℕ)
    → AllByRecursion IsKnown (site_files index sources order)
all_known index sources order =
    let script : List ℕ = script_text index sources in
    let first : List ℕ = first_page (paths_in index.documents sources order) in
    all_append IsKnown (pages index sources (numbers (length index.documents))) (shared script first)
    (each_of IsKnown (page_file_at index sources) (numbers (length index.documents))
    (λ number. page_known (path_listed index.documents number) (page_at index sources number)))
    (shared_known script first)

pub files_are_no_folders : FilesAreNoFolders
files_are_no_folders index sources order =
    let files : List MadeFile = site_files index sources order in
    let all : AllByRecursion IsKnown files = all_known index sources order in
    weaker IsKnown (λ made. AllByRecursion (IsNoFolder made) files)
    (λ made is. weaker IsKnown (IsNoFolder made) (λ other too. apart made other is too) files all) files all
