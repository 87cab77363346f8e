-- Why a program about a tree doesn't start, by its options and the files.
-- `lists`, `gives` and `finds` are what the system of files gives.
use Rattle.std.specs.Prelude.{◌≡◌, ◌≢◌, ℕ, ⊤, Bool, List, ◌∷◌, ◌++◌, Option, Some, None, String, string_bytes, codes}
use Rattle.std.specs.Prelude.{All}
use Rattle.std.specs.Fmt.{decimal}
use Rattle.std.specs.Global.{Global}
use Rattle.source_files.specs.Listings.{Listing}
use Rattle.source_files.specs.declared.load_fault.LoadFault.{LoadFault}
use Rattle.source_files.specs.declared.load_fault.LoadFault.TheVariants as load
use Rattle.source_files.specs.ListedTrees.{MayNotLoadListed}
use Rattle.source_files.specs.Loads.{MayNotLoad}
use Rattle.source_files.specs.SourceLists.{Listed}
use Rattle.scip_symbol.specs.Package.{IsPackage}
use Rattle.command_line.specs.declared.options.IndexOptions.{IndexOptions}
use Rattle.command_line.specs.declared.options.include.PackageFolder.{PackageFolder}
use Rattle.command_line.specs.declared.options.sources.SourceList.{SourceList}
use Rattle.programs.specs.declared.start_fault.StartFault.{StartFault}
use Rattle.programs.specs.declared.start_fault.StartFault.TheVariants.{BadPart, BadFolder, Load, Unlisted}
use Rattle.programs.specs.Settings.{leaves_out, package_in}
use Rattle.programs.specs.Folders.{AreSourcesListed, HasBadFolder, NamePackages, folder_package, roots_in}
use Rattle.programs.specs.Folders.{included_in}
use Rattle.programs.specs.Imports.{TellsIn}

-- the options name no package of the run; or memory ran out
pub data NamesNone (options : IndexOptions) : StartFault → Type 0 where
  run_is_unnamed : (IsPackage (package_in options) → ⊥) → NamesNone options BadPart
  run_lacks_memory : NamesNone options (Load load.Memory)

-- the folder's package isn't one, or memory ran out
pub data IsBadFolder (folder : PackageFolder) : StartFault → Type 0 where
  folder_is_unnamed : {path : String Global} → (IsPackage (folder_package folder) → ⊥)
      → string_bytes path ≡ string_bytes folder.folder → IsBadFolder folder (BadFolder path)
  folder_lacks_memory : IsBadFolder folder (Load load.Memory)

-- the first of the folders whose package isn't one is named; or memory ran out
pub data HasNoPackage (folders : List PackageFolder) : StartFault → Type 0 where
  first_is_unnamed : {path : String Global} → HasBadFolder folders (string_bytes path)
      → HasNoPackage folders (BadFolder path)
  folders_lack_memory : HasNoPackage folders (Load load.Memory)

-- the options name no package of the run, or none of a folder; or memory ran out
pub data NameNoPackages (options : IndexOptions) : StartFault → Type 0 where
  none_of_run : {fault : StartFault} → NamesNone options fault → NameNoPackages options fault
  none_of_folder : {fault : StartFault} → IsPackage (package_in options)
      → HasNoPackage options.include_packages.items fault → NameNoPackages options fault

-- the number of the first line, of these, that names a path
pub record IsLineOf (listed : List Listed) (path : List ℕ) (line : ℕ) : Type 0 where
  pub before : List Listed
  pub named : Listed
  pub behind : List Listed
  pub listed_are : listed ≡ before ++ named ∷ behind
  pub path_is : named.path ≡ path
  pub line_is : named.line ≡ line
  pub first : All (λ other. other.path ≢ path) before

-- the file of a list, and the number of its line that names a path
abbrev pub IsPlaceOf : SourceList → (path place : List ℕ) → Type 0
IsPlaceOf list path place =
    (line : ℕ) × IsLineOf list.listed.items path line × (place ≡ string_bytes list.file ++ codes ":" ++ decimal line)

-- no line names what can't be read, if that is the fault
abbrev pub IsOfNoLine : SourceList → LoadFault → Type 0
IsOfNoLine list (load.Unreadable path) = All (λ named. named.path ≢ string_bytes path) list.listed.items
IsOfNoLine list fault = ⊤

-- what a fault of its tree becomes: that a listed path can't be read is the fault of its line, and any other stays what
-- it is; or memory runs out
pub data IsFaultOf (list : SourceList) : LoadFault → StartFault → Type 0 where
  is_of_tree : {fault : LoadFault} → IsOfNoLine list fault → IsFaultOf list fault (Load fault)
  is_of_line : {place path : String Global} → IsPlaceOf list (string_bytes path) (string_bytes place)
      → IsFaultOf list (load.Unreadable path) (Unlisted place path)
  lacks_line : {fault : LoadFault} → IsFaultOf list fault (Load load.Memory)

-- why there is no tree of a list
abbrev pub MayNotLoadList : (gives : List ℕ → Option (List ℕ) → Type 0) → (finds : List ℕ → List ℕ → Bool → Type 0)
    → IndexOptions → SourceList → LoadFault → Type 0
MayNotLoadList gives finds options list fault =
    (paths : List (List ℕ)) × AreSourcesListed options list paths
    × MayNotLoadListed finds gives (TellsIn options.dialect) (leaves_out options.faulty) options.links_options
    (roots_in options) paths fault

-- why a program about the tree of a list doesn't start: what can't be read is the fault of its line if, and only if, it
-- is listed; or memory ran out
pub data MayNotStartList (gives : List ℕ → Option (List ℕ) → Type 0) (finds : List ℕ → List ℕ → Bool → Type 0)
    (options : IndexOptions) (list : SourceList) : StartFault → Type 0 where
  of_tree : {fault : LoadFault} → MayNotLoadList gives finds options list fault → IsOfNoLine list fault
      → MayNotStartList gives finds options list (Load fault)
  of_line : {place path : String Global} → MayNotLoadList gives finds options list (load.Unreadable path)
      → IsPlaceOf list (string_bytes path) (string_bytes place)
      → MayNotStartList gives finds options list (Unlisted place path)
  list_lacks_memory : MayNotStartList gives finds options list (Load load.Memory)

-- the options name no package of the run, or none of a folder; or memory ran out; or they name packages, and there is
-- no tree of the files: of a list what can't be read is the fault of its line
pub data MayNotStart (lists : List ℕ → List ℕ → Option Listing → Type 0) (gives : List ℕ → Option (List ℕ) → Type 0)
    (finds : List ℕ → List ℕ → Bool → Type 0)
    (options : IndexOptions) : StartFault → Type 0 where
  no_package : {fault : StartFault} → NamesNone options fault → MayNotStart lists gives finds options fault
  no_package_of_folder : {fault : StartFault} → IsPackage (package_in options)
      → HasNoPackage options.include_packages.items fault → MayNotStart lists gives finds options fault
  no_tree : {fault : LoadFault} → NamePackages options → options.sources ≡ None
      → MayNotLoad lists gives (leaves_out options.faulty) (string_bytes options.root) (included_in options) fault
      → MayNotStart lists gives finds options (Load fault)
  no_tree_of_list : {list : SourceList} {fault : StartFault} → NamePackages options → options.sources ≡ Some list
      → MayNotStartList gives finds options list fault → MayNotStart lists gives finds options fault
  start_lacks_memory : MayNotStart lists gives finds options (Load load.Memory)
