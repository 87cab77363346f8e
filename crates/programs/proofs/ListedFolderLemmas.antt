-- The paths of a list that are read, the lines that name them, and why there is no tree of a list.
use Rattle.std.proofs.Common.{◌≡◌, ◌≢◌, ◌∙◌, ◌+◌, ◌<◌, ℕ, Bool, List, [], ◌∷◌, ◌++◌, ap, map, refl, sym, subst}
use Rattle.std.proofs.Common.{All, Option, drop, get_or, length, take}
use Rattle.std.proofs.lemmas.List.{map-append, take_more}
use Rattle.source_files.specs.Exclusions.{PathsStay, no_path_stays, path_goes, path_stays}
use Rattle.source_files.specs.Listings.{Listing}
use Rattle.source_files.specs.SourceLists.{Listed}
use Rattle.source_files.specs.declared.load_fault.LoadFault.{LoadFault}
use Rattle.command_line.specs.declared.options.sources.SourceList.{SourceList}
use Rattle.command_line.specs.declared.options.IndexOptions.{IndexOptions}
use Rattle.programs.specs.Starting.{IsFaultOf, IsLineOf, MayNotLoadList, MayNotStart, MayNotStartList, NameNoPackages}
use Rattle.programs.specs.Starting.{is_of_line, is_of_tree, lacks_line, list_lacks_memory, of_line, of_tree}
use Rattle.programs.specs.Starting.MayNotStart.{no_package, no_package_of_folder}
use Rattle.programs.specs.Starting.NameNoPackages.{none_of_folder, none_of_run}
use Rattle.programs.specs.declared.start_fault.StartFault.{StartFault}
use Rattle.programs.proofs.FolderLemmas.{parted}

-- paths stay, and then more
pub stay_behind : {patterns all others left more : List (List ℕ)} → PathsStay patterns all left
    → PathsStay patterns others more → PathsStay patterns (all ++ others) (left ++ more)
stay_behind no_path_stays more_stay = more_stay
stay_behind (path_stays out rest) more_stay = path_stays out (stay_behind rest more_stay)
stay_behind (path_goes out rest) more_stay = path_goes out (stay_behind rest more_stay)

-- those of the first paths that stay, and then of one more
pub stays_next : {A : Type 0} (path_in : A → List ℕ) (patterns : List (List ℕ)) (all : List A) (number : ℕ) (one : A)
    (old new : List (List ℕ)) → number < length all → one ≡ get_or all number one
    → PathsStay patterns (map path_in (take number all)) old
    → (more : List (List ℕ)) × PathsStay patterns (path_in one ∷ []) more × (new ≡ old ++ more)
    → PathsStay patterns (map path_in (take (number + 1) all)) new
stays_next path_in patterns all number one old new below is so_far adds =
    let first : map path_in (take (number + 1) all) ≡ map path_in (take number all) ++ path_in one ∷ [] =
    ap (map path_in) (take_more all number one below ∙ ap (λ x. take number all ++ x ∷ []) (sym is))
    ∙ map-append path_in (take number all) (one ∷ []) in
    subst (λ (l : List (List ℕ)). PathsStay patterns l new) (sym first)
    (subst (λ (l : List (List ℕ)). PathsStay patterns (map path_in (take number all) ++ path_in one ∷ []) l)
    (sym adds.2) (stay_behind so_far adds.1))

-- the first line that names a path
pub line_is : (listed : List Listed) (number : ℕ) (one : Listed) (path : List ℕ) → number < length listed
    → one ≡ get_or listed number one → All (λ other. other.path ≢ path) (take number listed) → one.path ≡ path
    → IsLineOf listed path one.line
line_is listed number one path below is others same = record {
  before = take number listed;
  named = one;
  behind = drop (number + 1) listed;
  listed_are = parted listed number one below is;
  path_is = same;
  line_is = refl;
  first = others;
}

-- options that name no packages start nothing
pub unnamed : (lists : List ℕ → List ℕ → Option Listing → Type 0) (gives : List ℕ → Option (List ℕ) → Type 0)
    (finds : List ℕ → List ℕ → Bool → Type 0) (options : IndexOptions) (fault : StartFault)
    → NameNoPackages options fault → MayNotStart lists gives finds options fault
unnamed lists gives finds options fault (none_of_run may) = no_package may
unnamed lists gives finds options fault (none_of_folder named may) = no_package_of_folder named may

-- why there is no tree of a list, by what its fault becomes
pub stops_list : {gives : List ℕ → Option (List ℕ) → Type 0} {finds : List ℕ → List ℕ → Bool → Type 0}
    {options : IndexOptions} {list : SourceList} {fault : LoadFault} {start : StartFault}
    → MayNotLoadList gives finds options list fault → IsFaultOf list fault start
    → MayNotStartList gives finds options list start
stops_list may (is_of_tree apart) = of_tree may apart
stops_list may (is_of_line there) = of_line may there
stops_list may lacks_line = list_lacks_memory
