-- The tree below the folders that options name, and the packages that its files belong to.
-- `lists`, `gives` and `finds` are what the system of files gives.
use Rattle.std.specs.Prelude.{◌≡◌, ℕ, Bool, Some, None, List, [], ◌∷◌, ◌++◌, Option, map, string_bytes, All}
use Rattle.std.specs.List.{AllZip, list_any}
use Rattle.std.specs.Str.{bytes_eq}
use Rattle.source_tree.specs.Files.{TreeFile}
use Rattle.source_files.specs.Listings.{Listing}
use Rattle.source_files.specs.Exclusions.{PathsStay}
use Rattle.source_files.specs.ListedTrees.{IsTreeListed}
use Rattle.source_files.specs.Loads.{IsLoadedBelow}
use Rattle.source_files.specs.Unread.{Unread}
use Rattle.scip_symbol.specs.Package.{Package, IsPackage}
use Rattle.scip_build.specs.AsRead.{AreReadIn}
use Rattle.scip_model.specs.Packages.{Root, Packages, ArePackages, package_among, package_of_path}
use Rattle.protoscip.specs.Unread.{PathUnread}
use Rattle.command_line.specs.declared.options.IndexOptions.{IndexOptions}
use Rattle.command_line.specs.declared.options.include.PackageFolder.{PackageFolder}
use Rattle.command_line.specs.declared.options.sources.SourceList.{SourceList}
use Rattle.programs.specs.Imports.{TellsIn}
use Rattle.programs.specs.Settings.{leaves_out, package_in}

-- the package that the files below a folder belong to
abbrev pub folder_package : PackageFolder → Package
folder_package folder = record {
  manager = string_bytes folder.manager;
  name = string_bytes folder.name;
  version = string_bytes folder.release;
}

-- the folders with included files: first those without a package of their own
abbrev pub included_in : IndexOptions → List (List ℕ)
included_in options =
    map string_bytes options.include.items
    ++ map (λ folder. string_bytes folder.folder) options.include_packages.items

-- the folders whose files are read: the root, and then those with included files
abbrev pub roots_in : IndexOptions → List (List ℕ)
roots_in options = string_bytes options.root ∷ included_in options

-- the packages of the folders with included files
abbrev pub included_packages : IndexOptions → List Package
included_packages options =
    map (λ _. package_in options) options.include.items ++ map folder_package options.include_packages.items

-- the packages of all folders, that of the sources before those with included files
abbrev pub packages_in : IndexOptions → List Package
packages_in options = package_in options ∷ included_packages options

-- each folder's package, with the paths of the files below it
abbrev pub roots_of : List Package → List (List (List ℕ)) → List Root
roots_of [] paths = []
roots_of (id ∷ ids) [] = []
roots_of (id ∷ ids) (here ∷ others) = record { id = id; paths = here } ∷ roots_of ids others

-- a folder as it is kept: it has the package, and the same paths
pub record IsRootOf (wanted root : Root) : Type 0 where
  pub id_is : root.id ≡ wanted.id
  pub has : (path : List ℕ) → list_any (bytes_eq path) root.paths ≡ list_any (bytes_eq path) wanted.paths

-- folders are added after those that are there
pub record AddsRoots (wanted : List Root) (before after : Packages) : Type 0 where
  pub added : List Root
  pub are : AllZip IsRootOf wanted added
  pub run : after.run ≡ before.run
  pub roots : after.roots ≡ before.roots ++ added

-- by the paths of the files below the root, and of those below each included folder: a file has the package of the
-- first folder that has a file with its path, since that is the file which counts. Each is made of good parts.
pub record AreByFolder (options : IndexOptions) (own : List (List ℕ)) (others : List (List (List ℕ))) (ids : Packages)
    : Type 0 where
  pub good : ArePackages ids
  pub run : ids.run ≡ package_in options
  pub each : (path : List ℕ) → package_of_path ids path
      ≡ package_among (package_in options) path (roots_of (packages_in options) (own ∷ others))

-- the paths that a list names, but those that options exclude
abbrev pub AreSourcesListed : IndexOptions → SourceList → (paths : List (List ℕ)) → Type 0
AreSourcesListed options list paths =
    PathsStay (map string_bytes options.exclude.items) (map (λ listed. listed.path) list.listed.items) paths

-- the tree of the files below the folders, or of the sources that a list names and the files that these reach; the paths
-- of the files below the root and below each other folder, and of what couldn't be read and was left out
abbrev pub IsLoadedFrom : (lists : List ℕ → List ℕ → Option Listing → Type 0)
    → (gives : List ℕ → Option (List ℕ) → Type 0) → (finds : List ℕ → List ℕ → Bool → Type 0) → IndexOptions
    → Option SourceList → List TreeFile → (own : List (List ℕ)) → (others : List (List (List ℕ)))
    → (unread : List Unread) → Type 0
IsLoadedFrom lists gives finds options None tree own others unread =
    IsLoadedBelow lists gives (leaves_out options.faulty) (string_bytes options.root) (included_in options) tree own
    others unread
IsLoadedFrom lists gives finds options (Some list) tree own others unread =
    (paths : List (List ℕ)) × AreSourcesListed options list paths
    × IsTreeListed finds gives (TellsIn options.dialect) (leaves_out options.faulty) options.links_options
    (roots_in options) paths tree own others unread

-- what is told of an entry that isn't read
abbrev pub path_unread : Unread → PathUnread
path_unread entry = record { shown = entry.shown; bytes = entry.bytes; is_bad = entry.has_bad_path }

-- the tree is that of the files below the folders, or of a list, as they are read in the options' dialect; this isn't
-- read there and is left out, and these are the packages of the tree's files
pub record AreFolders (lists : List ℕ → List ℕ → Option Listing → Type 0)
    (gives : List ℕ → Option (List ℕ) → Type 0)
    (finds : List ℕ → List ℕ → Bool → Type 0)
    (options : IndexOptions) (tree : List TreeFile) (unread : List PathUnread) (ids : Packages) : Type 0 where
  pub own : List (List ℕ)
  pub others : List (List (List ℕ))
  pub files : List TreeFile
  pub entries : List Unread
  pub below : IsLoadedFrom lists gives finds options options.sources files own others entries
  pub unread_are : unread ≡ map path_unread entries
  pub read : AreReadIn options.dialect files tree
  pub by : AreByFolder options own others ids

-- the options name packages
pub record NamePackages (options : IndexOptions) : Type 0 where
  pub run : IsPackage (package_in options)
  pub folders : All (λ folder. IsPackage (folder_package folder)) options.include_packages.items

-- the first of the folders whose package isn't one has this path
pub record HasBadFolder (folders : List PackageFolder) (path : List ℕ) : Type 0 where
  pub before : List PackageFolder
  pub folder : PackageFolder
  pub behind : List PackageFolder
  pub split : folders ≡ before ++ folder ∷ behind
  pub good : All (λ earlier. IsPackage (folder_package earlier)) before
  pub bad : IsPackage (folder_package folder) → ⊥
  pub path_is : path ≡ string_bytes folder.folder
