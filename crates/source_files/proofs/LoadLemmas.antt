-- The files below several roots, root by root, and the paths that are named.
use Rattle.std.proofs.Common.{◌≡◌, ◌<◌, ◌+◌, ℕ, Bool, List, [], ◌∷◌, ◌++◌, map, length, take, drop, get_or, Option, Some}
use Rattle.std.proofs.Common.{refl, ap, ap₂, sym, add-one, drop-cons, ◌∙◌, subst, string_bytes}
use Rattle.std.specs.List.{AllZip, slice_get}
use Rattle.std.specs.Option.{option_map}
use Rattle.std.proofs.lemmas.List.{map-append, take-append-drop}
use Rattle.std.proofs.lemmas.Option.{same_Some, slice_get_within}
use Rattle.basics.proofs.ListLemmas.{zip_push as zip-push}
use Rattle.source_tree.specs.Files.{SourceFile, IsByPath}
use Rattle.source_tree.specs.Laws.{OneSortingByPath}
use Rattle.source_tree.specs.Refusals.{HaveBadPath, HaveSamePath}
use Rattle.source_files.specs.Listings.{Listing}
use Rattle.source_files.specs.Roots.{AreFilesBelow, FilesBelow, IsUnreadableBelow}
use Rattle.source_files.specs.RootFaults.{MayStop}
use Rattle.source_files.specs.declared.load_fault.LoadFault.{LoadFault}
use Rattle.source_files.specs.declared.load_fault.LoadFault.TheVariants as load
use Rattle.source_files.specs.Loads.{MayNotLoad}
use Rattle.source_files.specs.LoadFaults.{MayStopBelow}

-- a list that is mapped, parted at an item
pub parted_at : {A B : Type 0} (f : A → B) (xs : List A) (number : ℕ) (x : A) → number < length xs
    → x ≡ get_or xs number x
    → map f xs ≡ map f (take number xs) ++ f x ∷ map f (drop (number + 1) xs)
parted_at f xs number x below is =
    ap (map f) (sym (take-append-drop number xs)) ∙ map-append f (take number xs) (drop number xs)
    ∙ ap (λ l. map f (take number xs) ++ map f l)
    (drop-cons xs number x below ∙ ap₂ (λ y l. y ∷ l) (sym is) (ap (λ n. drop n xs) (sym (add-one number))))

-- and a path that stands there is the one that is bad
pub bad_path : (sources included : List SourceFile) (number : ℕ) (path : List ℕ)
    (bad : HaveBadPath sources included number)
    → option_map (λ (file : SourceFile). file.path) (slice_get (sources ++ included) number) ≡ Some path
    → path ≡ bad.first.file.path
bad_path sources included number path bad at =
    same_Some path bad.first.file.path (sym at ∙ ap (option_map (λ (file : SourceFile). file.path)) bad.first.numbered)

-- of sources by path the number of one with the path of an earlier one is one of a source
pub same_within : OneSortingByPath → (sources included back : List SourceFile) (number : ℕ)
    → HaveSamePath sources included number → IsByPath sources back → number < length back
same_within one sources included back number same by =
    subst (λ (l : List SourceFile). number < length l) (one sources same.sorted back same.by_path by)
    (slice_get_within same.sorted number same.first.repeats.second same.first.repeats.numbered_second)

-- and a path that stands there is the one that two have
pub same_path : OneSortingByPath
    → (sources included back : List SourceFile) (number : ℕ) (path : List ℕ)
    (same : HaveSamePath sources included number) → IsByPath sources back
    → option_map (λ (file : SourceFile). file.path) (slice_get back number) ≡ Some path
    → path ≡ same.first.repeats.second.path
same_path one sources included back number path same by at =
    let here : slice_get back number ≡ Some same.first.repeats.second =
    subst (λ (l : List SourceFile). slice_get l number ≡ Some same.first.repeats.second)
    (one sources same.sorted back same.by_path by) same.first.repeats.numbered_second in
    same_Some path same.first.repeats.second.path (sym at ∙ ap (option_map (λ (file : SourceFile). file.path)) here)

module _ (lists : List ℕ → List ℕ → Option Listing → Type 0) (gives : List ℕ → Option (List ℕ) → Type 0)
    (leaves_out : Bool) where
  -- the files below each of these roots
  abbrev pub AreEach : List (List ℕ) → List FilesBelow → Type 0
  AreEach roots each = AllZip (AreFilesBelow lists gives leaves_out) roots each

  -- one root more
  pub root_more : (roots : List (List ℕ)) (each : List FilesBelow) (root : List ℕ) (below : FilesBelow)
      → AreEach roots each → AreFilesBelow lists gives leaves_out root below
      → AreEach (roots ++ root ∷ []) (each ++ below ∷ [])
  root_more roots each root below all one =
      zip-push (AreFilesBelow lists gives leaves_out) roots each root below all one

  -- below the next root something can't be read
  pub stop_below : (before : List (List ℕ)) (root : List ℕ) (behind roots : List (List ℕ)) (each : List FilesBelow)
      (fault : LoadFault)
      → roots ≡ before ++ root ∷ behind → AreEach before each → MayStop lists gives leaves_out root fault
      → MayStopBelow lists gives leaves_out roots fault
  stop_below before root behind roots each (load.Unreadable name) are read stop = record {
    before = before;
    root = root;
    behind = behind;
    each = each;
    roots_are = are;
    read = read;
    unreadable = stop;
  }
  stop_below before root behind roots each load.TooMany are read stop = absurd stop
  stop_below before root behind roots each (load.BadPath path) are read stop = absurd stop
  stop_below before root behind roots each (load.SamePath path) are read stop = absurd stop
  stop_below before root behind roots each load.Memory are read stop = tt

  -- the same behind a root that can be read
  pub stop_behind : (root : List ℕ) (roots : List (List ℕ)) (here : FilesBelow) (name : List ℕ)
      → AreFilesBelow lists gives leaves_out root here → IsUnreadableBelow lists gives leaves_out roots name
      → IsUnreadableBelow lists gives leaves_out (root ∷ roots) name
  stop_behind root roots here name below stop = record {
    before = root ∷ stop.before;
    root = stop.root;
    behind = stop.behind;
    each = here ∷ stop.each;
    roots_are = ap (λ l. root ∷ l) stop.roots_are;
    read = (below, stop.read);
    unreadable = stop.unreadable;
  }

  -- what can't be read below the first root isn't loaded
  pub refused_root : (root : List ℕ) (roots : List (List ℕ)) (fault : LoadFault)
      → MayStop lists gives leaves_out root fault → MayNotLoad lists gives leaves_out root roots fault
  refused_root root roots (load.Unreadable name) stop = record {
    before = [];
    root = root;
    behind = roots;
    each = [];
    roots_are = refl;
    read = tt;
    unreadable = stop;
  }
  refused_root root roots load.TooMany stop = absurd stop
  refused_root root roots (load.BadPath path) stop = absurd stop
  refused_root root roots (load.SamePath path) stop = absurd stop
  refused_root root roots load.Memory stop = tt

  -- nor what can't be read below the included roots
  pub refused_included : (root : List ℕ) (roots : List (List ℕ)) (here : FilesBelow) (fault : LoadFault)
      → AreFilesBelow lists gives leaves_out root here → MayStopBelow lists gives leaves_out roots fault
      → MayNotLoad lists gives leaves_out root roots fault
  refused_included root roots here (load.Unreadable name) below stop =
      stop_behind root roots here (string_bytes name) below stop
  refused_included root roots here load.TooMany below stop = absurd stop
  refused_included root roots here (load.BadPath path) below stop = absurd stop
  refused_included root roots here (load.SamePath path) below stop = absurd stop
  refused_included root roots here load.Memory below stop = tt
