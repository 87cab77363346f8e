-- The packages of files, by the folders that they are read from.
use Rattle.std.proofs.Common.{◌≡◌, ◌∙◌, ◌⊎◌, inl, inr, refl, sym, ap, subst, ℕ, Bool, true, false, List, [], ◌∷◌, ◌++◌}
use Rattle.std.proofs.Common.{Option, None, Some, map, length, ◌||◌, ◌<◌, ◌+◌, take, drop, ap₂, get_or, add-one}
use Rattle.std.proofs.Common.{drop-cons}
use Rattle.std.specs.Prelude.{All, if◌then◌else◌, string_bytes}
use Rattle.std.specs.List.{AllZip, list_any}
use Rattle.std.specs.Str.{bytes_eq}
use Rattle.std.proofs.Math.Bool.{or-false}
use Rattle.std.proofs.lemmas.List.{append-nil, append_assoc, take-append-drop, map-append, take_more}
use Rattle.std.proofs.lemmas.List.Elements.{All-nil, All-cons, All-head, All-tail, All-push}
use Rattle.std.proofs.lemmas.List.Folds.{list_any-append}
use Rattle.std.proofs.lemmas.Slice.Eq.{bytes_eq-Decides}
use Rattle.basics.proofs.ListLemmas.{zip_append as zip-append}
use Rattle.scip_symbol.specs.Package.{Package, IsPackage}
use Rattle.scip_build.specs.AsRead.{AreReadIn}
use Rattle.scip_model.specs.Packages.{Root, Packages, ArePackages, all_in, with_path, package_among, package_of_path}
use Rattle.command_line.specs.declared.options.IndexOptions.{IndexOptions}
use Rattle.command_line.specs.declared.options.include.PackageFolder.{PackageFolder}
use Rattle.command_line.specs.declared.options.sources.SourceList.{SourceList}
use Rattle.source_tree.specs.Files.{TreeFile, paths_of}
use Rattle.protoscip.specs.Unread.{PathUnread}
use Rattle.source_files.specs.Listings.{Listing}
use Rattle.source_files.specs.Roots.{AreFilesBelow, FilesBelow}
use Rattle.source_files.specs.Loads.{IsLoadedBelow, IsTreeBelow, MayNotLoad}
use Rattle.source_files.specs.declared.load_fault.LoadFault.{LoadFault}
use Rattle.programs.specs.Settings.{leaves_out, package_in}
use Rattle.programs.specs.Folders.{AddsRoots, AreByFolder, AreFolders, IsRootOf, folder_package, included_packages}
use Rattle.programs.specs.Folders.{path_unread}
use Rattle.source_files.specs.Unread.{Unread}
use Rattle.programs.specs.Folders.{HasBadFolder, IsLoadedFrom, NamePackages, included_in, packages_in, roots_of}
use Rattle.programs.specs.Starting.{HasNoPackage, IsBadFolder, MayNotStart}
use Rattle.programs.specs.Starting.MayNotStart.{no_tree}
use Rattle.programs.specs.Starting.HasNoPackage.{first_is_unnamed, folders_lack_memory}
use Rattle.programs.specs.Starting.IsBadFolder.{folder_is_unnamed, folder_lacks_memory}
use Rattle.programs.specs.declared.start_fault.StartFault.{StartFault}
use Rattle.programs.specs.declared.start_fault.StartFault.TheVariants.{Load}

-- ---- the paths of one folder

-- a path that is there already changes no answer
there_already : (path x : List ℕ) (paths : List (List ℕ)) → list_any (bytes_eq x) paths ≡ true → (same : Bool)
    → bytes_eq path x ≡ same
    → (list_any (bytes_eq path) paths || (same || false)) ≡ list_any (bytes_eq path) paths
there_already path x paths there false apart = or-false (list_any (bytes_eq path) paths)
there_already path x paths there true same =
    let it : path ≡ x = (bytes_eq-Decides path x).0 same in
    let has : list_any (bytes_eq path) paths ≡ true =
    subst (λ (p : List ℕ). list_any (bytes_eq p) paths ≡ true) (sym it) there in rw has refl

kept_once : (path x : List ℕ) (paths : List (List ℕ)) (there : Bool) → list_any (bytes_eq x) paths ≡ there
    → list_any (bytes_eq path) (if there then paths else paths ++ x ∷ []) ≡ list_any (bytes_eq path) (paths ++ x ∷ [])
kept_once path x paths false known = refl
kept_once path x paths true known =
    sym (list_any-append (bytes_eq path) paths (x ∷ [])
    ∙ there_already path x paths known (bytes_eq path x) refl)

-- one more
pub one_path_more : (id : Package) (before : List (List ℕ)) (x : List ℕ) (old new : Root)
    → IsRootOf (record { id = id; paths = before }) old → new.id ≡ old.id → new.paths ≡ with_path old.paths x
    → IsRootOf (record { id = id; paths = before ++ x ∷ [] }) new
one_path_more id before x old new is same more = record {
  id_is = same ∙ is.id_is;
  has = λ path.
      ap (list_any (bytes_eq path)) more
      ∙ (kept_once path x old.paths (list_any (bytes_eq x) old.paths) refl
      ∙ (list_any-append (bytes_eq path) old.paths (x ∷ [])
      ∙ (ap (λ (b : Bool). b || (bytes_eq path x || false)) (is.has path)
      ∙ sym (list_any-append (bytes_eq path) before (x ∷ [])))));
}

-- ---- folders one after another

-- none yet
pub no_roots : (before : Packages) → AddsRoots [] before before
no_roots before = record { added = []; are = tt; run = refl; roots = sym (append-nil before.roots) }

pub roots_more : (first second : List Root) (before now after : Packages) → AddsRoots first before now
    → AddsRoots second now after → AddsRoots (first ++ second) before after
roots_more first second before now after one two = record {
  added = one.added ++ two.added;
  are = zip-append IsRootOf first second one.added two.added one.are two.are;
  run = two.run ∙ one.run;
  roots =
      two.roots
      ∙ (ap (λ (l : List Root). l ++ two.added) one.roots ∙ append_assoc before.roots one.added two.added);
}

-- the first of all folders are added, and these are left
pub record AreAddedBut (all : List Root) (before now : Packages) (ids : List Package) (paths : List (List (List ℕ)))
    : Type 0 where
  pub done : List Root
  pub adds : AddsRoots done before now
  pub split : all ≡ done ++ roots_of ids paths

pub none_added : (before : Packages) (ids : List Package) (paths : List (List (List ℕ)))
    → AreAddedBut (roots_of ids paths) before before ids paths
none_added before ids paths = record { done = []; adds = no_roots before; split = refl }

pub one_added : {A : Type 0} (paths_in : A → List (List ℕ)) (all : List Root) (before now after : Packages)
    (id : Package) (here : A) (ids rest : List Package) (folders others : List A) → ids ≡ id ∷ rest
    → folders ≡ here ∷ others → AreAddedBut all before now ids (map paths_in folders)
    → AddsRoots (record { id = id; paths = paths_in here } ∷ []) now after
    → AreAddedBut all before after rest (map paths_in others)
one_added paths_in all before now after id here ids rest folders others first second so_far adds =
    let left : AreAddedBut all before now (id ∷ rest) (map paths_in (here ∷ others)) =
    subst (λ (l : List Package). AreAddedBut all before now l (map paths_in (here ∷ others))) first
    (subst (λ l. AreAddedBut all before now ids (map paths_in l)) second so_far) in
    let root : Root = record { id = id; paths = paths_in here } in
    record {
      done = left.done ++ root ∷ [];
      adds = roots_more left.done (root ∷ []) before now after left.adds adds;
      split = left.split ∙ sym (append_assoc left.done (root ∷ []) (roots_of rest (map paths_in others)));
    }

no_roots_left : {A : Type 0} (paths_in : A → List (List ℕ)) (ids : List Package) (folders : List A)
    → (length ids ≡ 0) ⊎ (length folders ≡ 0) → roots_of ids (map paths_in folders) ≡ []
no_roots_left paths_in [] folders ended = refl
no_roots_left paths_in (id ∷ ids) [] ended = refl
no_roots_left paths_in (id ∷ ids) (here ∷ folders) (inl none) = absurd cc
no_roots_left paths_in (id ∷ ids) (here ∷ folders) (inr none) = absurd cc

pub all_added : {A : Type 0} (paths_in : A → List (List ℕ)) (all : List Root) (before now : Packages)
    (ids : List Package) (folders : List A) → (length ids ≡ 0) ⊎ (length folders ≡ 0)
    → AreAddedBut all before now ids (map paths_in folders) → AddsRoots all before now
all_added paths_in all before now ids folders ended so_far =
    subst (λ (roots : List Root). AddsRoots roots before now)
    (sym (so_far.split ∙ (ap (λ (l : List Root). so_far.done ++ l) (no_roots_left paths_in ids folders ended)
    ∙ append-nil so_far.done))) so_far.adds

-- ---- the package of a file

chosen_alike : (b c : Bool) (p q x y : Package) → b ≡ c → p ≡ q → x ≡ y → (if b then p else x) ≡ (if c then q else y)
chosen_alike b c p q x y one two three = rw (one, two, three) refl

among_alike : (run : Package) (path : List ℕ) (wanted roots : List Root) → AllZip IsRootOf wanted roots
    → package_among run path roots ≡ package_among run path wanted
among_alike run path [] [] all = refl
among_alike run path [] (root ∷ roots) all = absurd all
among_alike run path (one ∷ wanted) [] all = absurd all
among_alike run path (one ∷ wanted) (root ∷ roots) all =
    chosen_alike (list_any (bytes_eq path) root.paths) (list_any (bytes_eq path) one.paths) root.id one.id
    (package_among run path roots) (package_among run path wanted) (all.0.has path) all.0.id_is
    (among_alike run path wanted roots all.1)

-- where the roots are those of all folders
pub by_folder : (options : IndexOptions) (own : List (List ℕ)) (others : List (List (List ℕ)))
    (first second third : Packages) → first ≡ all_in (package_in options)
    → AddsRoots (record { id = package_in options; paths = own } ∷ []) first second
    → AddsRoots (roots_of (included_packages options) others) second third → ArePackages third
    → AreByFolder options own others third
unfolding package_of_path
by_folder options own others first second third is one two good =
    let all = roots_more (record { id = package_in options; paths = own } ∷ [])
    (roots_of (included_packages options) others) first second third one two in
    let run : third.run ≡ package_in options = all.run ∙ ap (λ (p : Packages). p.run) is in
    let roots : third.roots ≡ all.added =
    all.roots ∙ ap (λ (p : Packages). p.roots ++ all.added) is in
    record {
      good = good;
      run = run;
      each = λ path.
          ap (λ (id : Package). package_among id path third.roots) run
          ∙ (ap (package_among (package_in options) path) roots
          ∙ among_alike (package_in options) path (roots_of (packages_in options) (own ∷ others)) all.added all.are);
    }

-- where no folder has a package of its own

chosen_one : (b : Bool) (p q run : Package) → p ≡ run → q ≡ run → (if b then p else q) ≡ run
chosen_one true p q run one two = one
chosen_one false p q run one two = two

among_one : (run : Package) (path : List ℕ) (ids : List Package) (paths : List (List (List ℕ)))
    → All (λ id. id ≡ run) ids → package_among run path (roots_of ids paths) ≡ run
among_one run path [] paths all = refl
among_one run path (id ∷ ids) [] all = refl
among_one run path (id ∷ ids) (here ∷ paths) all =
    chosen_one (list_any (bytes_eq path) here) id (package_among run path (roots_of ids paths)) run
    (All-head (λ p. p ≡ run) id ids all) (among_one run path ids paths (All-tail (λ p. p ≡ run) id ids all))

all_of_run : {A : Type 0} (run : Package) (xs : List A) → All (λ id. id ≡ run) (map (λ _. run) xs ++ [])
all_of_run run [] = All-nil (λ id. id ≡ run)
all_of_run run (x ∷ xs) = All-cons (λ id. id ≡ run) run (map (λ _. run) xs ++ []) refl (all_of_run run xs)

pub by_no_folder : (options : IndexOptions) (own : List (List ℕ)) (others : List (List (List ℕ)))
    → options.include_packages.items ≡ [] → IsPackage (package_in options)
    → AreByFolder options own others (all_in (package_in options))
unfolding package_of_path
by_no_folder options own others none good = record {
  good = record { run = good; roots = All-nil (λ (root : Root). IsPackage root.id) };
  run = refl;
  each = λ path.
      sym (among_one (package_in options) path (packages_in options) (own ∷ others)
      (All-cons (λ id. id ≡ package_in options) (package_in options) (included_packages options) refl
      (subst (λ (folders : List PackageFolder). All (λ id. id ≡ package_in options)
      (map (λ _. package_in options) options.include.items ++ map folder_package folders)) (sym none)
      (all_of_run (package_in options) options.include.items))));
}

-- ---- the packages of folders, one after another

-- one folder more
pub package_more : (folders : List PackageFolder) (number : ℕ) (folder : PackageFolder) (old new : List Package)
    (id : Package) → number < length folders → folder ≡ get_or folders number folder
    → (old ≡ map folder_package (take number folders))
    × All (λ earlier. IsPackage (folder_package earlier)) (take number folders)
    → (id ≡ folder_package folder) × IsPackage (folder_package folder) → new ≡ old ++ id ∷ []
    → (new ≡ map folder_package (take (number + 1) folders))
    × All (λ earlier. IsPackage (folder_package earlier)) (take (number + 1) folders)
package_more folders number folder old new id below is so_far named more =
    let next : take (number + 1) folders ≡ take number folders ++ folder ∷ [] =
    take_more folders number folder below
    ∙ ap (λ (f : PackageFolder). take number folders ++ f ∷ []) (sym is) in (
      more
          ∙ (ap₂ (λ (l : List Package) (p : Package). l ++ p ∷ []) so_far.0 named.0
          ∙ (sym (map-append folder_package (take number folders) (folder ∷ []))
          ∙ ap (map folder_package) (sym next))),
      subst (λ (l : List PackageFolder). All (λ earlier. IsPackage (folder_package earlier)) l) (sym next)
          (All-push (λ earlier. IsPackage (folder_package earlier)) (take number folders) folder so_far.1 named.1),
    )

-- ---- folders whose package isn't one

bad_folder : (before : List PackageFolder) (folder : PackageFolder) (behind folders : List PackageFolder)
    (path : List ℕ) → folders ≡ before ++ folder ∷ behind
    → All (λ earlier. IsPackage (folder_package earlier)) before → (IsPackage (folder_package folder) → ⊥)
    → path ≡ string_bytes folder.folder → HasBadFolder folders path
bad_folder before folder behind folders path split good bad is = record {
  before = before;
  folder = folder;
  behind = behind;
  split = split;
  good = good;
  bad = bad;
  path_is = is;
}

-- a list, parted at an item
pub parted : {A : Type 0} (xs : List A) (number : ℕ) (x : A) → number < length xs → x ≡ get_or xs number x
    → xs ≡ take number xs ++ x ∷ drop (number + 1) xs
parted xs number x below is =
    sym (take-append-drop number xs)
    ∙ ap (λ l. take number xs ++ l)
    (drop-cons xs number x below ∙ ap₂ (λ y l. y ∷ l) (sym is) (ap (λ n. drop n xs) (sym (add-one number))))

-- a folder's package isn't one, and those before it are good
bad_one : (folders before : List PackageFolder) (folder : PackageFolder) (behind : List PackageFolder)
    (fault : StartFault) → folders ≡ before ++ folder ∷ behind
    → All (λ earlier. IsPackage (folder_package earlier)) before → IsBadFolder folder fault → HasNoPackage folders fault
bad_one folders before folder behind _ split good (folder_is_unnamed bad is) =
    first_is_unnamed (bad_folder before folder behind folders _ split good bad is)
bad_one folders before folder behind _ split good folder_lacks_memory = folders_lack_memory

pub bad_at : (folders : List PackageFolder) (number : ℕ) (folder : PackageFolder) (fault : StartFault)
    → number < length folders → folder ≡ get_or folders number folder
    → All (λ earlier. IsPackage (folder_package earlier)) (take number folders) → IsBadFolder folder fault
    → HasNoPackage folders fault
bad_at folders number folder fault below is good bad =
    bad_one folders (take number folders) folder (drop (number + 1) folders) fault
    (parted folders number folder below is) good bad

-- ---- the tree of the files below folders

module _ (lists : List ℕ → List ℕ → Option Listing → Type 0) (gives : List ℕ → Option (List ℕ) → Type 0)
    (finds : List ℕ → List ℕ → Bool → Type 0)
    (options : IndexOptions) where
  -- where no folder has a package of its own, and there is no tree
  pub unloaded_of_run : (fault : LoadFault) → options.sources ≡ None → options.include_packages.items ≡ []
      → NamePackages options
      → MayNotLoad lists gives (leaves_out options.faulty) (string_bytes options.root)
      (map string_bytes options.include.items) fault
      → MayNotStart lists gives finds options (Load fault)
  unloaded_of_run fault unlisted none named may =
      let roots : included_in options ≡ map string_bytes options.include.items =
      ap (λ (folders : List PackageFolder). map string_bytes options.include.items
      ++ map (λ folder. string_bytes folder.folder) folders) none ∙ append-nil (map string_bytes options.include.items)
      in
      let May : List (List ℕ) → Type 0 = λ roots. MayNotLoad lists gives (leaves_out options.faulty)
      (string_bytes options.root) roots fault in
      no_tree named unlisted (subst May (sym roots) may)

  -- the tree of the files below the folders
  pub from_folders : (files : List TreeFile) (own : List (List ℕ)) (others : List (List (List ℕ)))
      (unread : List Unread) → options.sources ≡ None
      → IsLoadedBelow lists gives (leaves_out options.faulty) (string_bytes options.root) (included_in options) files
      own others unread
      → IsLoadedFrom lists gives finds options options.sources files own others unread
  from_folders files own others unread unlisted below =
      let From : Option SourceList → Type 0 = λ list. IsLoadedFrom lists gives finds options list files own others
      unread
      in
      subst From (sym unlisted) below

  -- the tree of a list
  pub from_list : (list : SourceList) (files : List TreeFile) (own : List (List ℕ)) (others : List (List (List ℕ)))
      (unread : List Unread) → options.sources ≡ Some list
      → IsLoadedFrom lists gives finds options (Some list) files own others unread
      → IsLoadedFrom lists gives finds options options.sources files own others unread
  from_list list files own others unread listed of =
      let From : Option SourceList → Type 0 = λ l. IsLoadedFrom lists gives finds options l files own others unread in
      subst From (sym listed) of

  -- as it is read, with the packages of its files
  pub folders_loaded : (files tree : List TreeFile) (own : List (List ℕ)) (others : List (List (List ℕ)))
      (unread : List Unread) (shown : List PathUnread) (ids : Packages)
      → IsLoadedFrom lists gives finds options options.sources files own others unread
      → AreReadIn options.dialect files tree → shown ≡ map path_unread unread → AreByFolder options own others ids
      → AreFolders lists gives finds options tree shown ids
  folders_loaded files tree own others unread shown ids below read same by = record {
    own = own;
    others = others;
    files = files;
    entries = unread;
    below = below;
    unread_are = same;
    read = read;
    by = by;
  }

  -- where no folder has a package of its own
  pub folders_of_run : (files tree : List TreeFile) (unread : List Unread) (shown : List PathUnread)
      → shown ≡ map path_unread unread → options.sources ≡ None
      → options.include_packages.items ≡ []
      → IsPackage (package_in options)
      → IsTreeBelow lists gives (leaves_out options.faulty) (string_bytes options.root)
      (map string_bytes options.include.items) files unread
      → AreReadIn options.dialect files tree
      → AreFolders lists gives finds options tree shown (all_in (package_in options))
  folders_of_run files tree unread shown same unlisted none good of read =
      let roots : included_in options ≡ map string_bytes options.include.items =
      ap (λ (folders : List PackageFolder). map string_bytes options.include.items
      ++ map (λ folder. string_bytes folder.folder) folders) none ∙ append-nil (map string_bytes options.include.items)
      in
      let own = paths_of of.own.files in
      let each = map (λ (below : FilesBelow). paths_of below.files) of.others in
      folders_loaded files tree own each unread shown (all_in (package_in options))
      (from_folders files own each unread unlisted (record {
        own = of.own;
        others = of.others;
        below = of.below;
        below_each = subst (λ (names : List (List ℕ)). AllZip (AreFilesBelow lists gives (leaves_out options.faulty))
            names of.others) (sym roots) of.below_each;
        holds = (of.holds, refl, refl);
      })) read same (by_no_folder options own each none good)
