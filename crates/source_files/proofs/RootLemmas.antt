-- The files below a root, of what is listed and read there.
use Rattle.std.proofs.Common.{◌≡◌, ◌∙◌, ℕ, Bool, true, false, List, ◌++◌, Option, refl}
use Rattle.std.proofs.Common.{sym, ap, subst, string_bytes}
use Rattle.std.specs.List.{All}
use Rattle.std.proofs.lemmas.Bool.{true≢false}
use Rattle.source_tree.specs.Files.{SourceFile, paths_of}
use Rattle.source_files.specs.Listings.{Listing}
use Rattle.source_files.specs.Unread.{Unread}
use Rattle.source_files.specs.declared.load_fault.LoadFault.{LoadFault}
use Rattle.source_files.specs.declared.load_fault.LoadFault.TheVariants as load
use Rattle.source_files.specs.Reading.{AreReadBut, MayStopAt}
use Rattle.source_files.specs.Roots.{AreFilesBelow, AreRead, FilesBelow, IsHeld, StopsBelow, of_root, of_source}
use Rattle.source_files.specs.RootFaults.{MayStop}
use Rattle.source_files.specs.Walks.{AreListed}
use Rattle.source_files.specs.WalkSteps.{AreListedBut, MayNotList, StopsWalk}
use Rattle.source_files.proofs.ReadingLemmas.{strict_read}

module _ (lists : List ℕ → List ℕ → Option Listing → Type 0) (gives : List ℕ → Option (List ℕ) → Type 0)
    (root : List ℕ) where
  -- what is listed and read
  pub files_below : (leaves_out : Bool) (paths : List (List ℕ)) (unlisted : List Unread) (read below : FilesBelow)
      → AreListedBut (lists root) leaves_out paths unlisted → AreReadBut lists gives leaves_out root paths read
      → below.files ≡ read.files → below.unread ≡ unlisted ++ read.unread
      → AreFilesBelow lists gives leaves_out root below
  files_below false paths unlisted read below listed are files unread =
      let at = strict_read lists gives are.read (are.whole refl) in (
        record {
          listed = subst (λ (l : List SourceFile). AreListed (lists root) (paths_of l)) (sym files)
              (subst (AreListed (lists root)) (sym at.0) listed.0);
          held = subst (All (IsHeld lists gives root)) (sym files) at.1;
        },
        unread ∙ (ap (λ (l : List Unread). l ++ read.unread) listed.1 ∙ are.whole refl),
      )
  files_below true paths unlisted read below listed are files unread = record {
    paths = paths;
    unlisted = unlisted;
    unheld = read.unread;
    walked = listed.0;
    root_listed = listed.1;
    read = subst (λ (l : List SourceFile). AreRead lists gives root paths l read.unread) (sym files) are.read;
    unread_are = unread;
  }

  -- why sources aren't read that are listed
  pub root_stops : (leaves_out : Bool) (paths : List (List ℕ)) (unlisted : List Unread) (fault : LoadFault)
      → AreListedBut (lists root) leaves_out paths unlisted → MayStopAt lists gives leaves_out root paths fault
      → MayStop lists gives leaves_out root fault
  root_stops false paths unlisted (load.Unreadable name) listed stop =
      let first = stop.1 in
      of_source first.sources (string_bytes name) first.behind
      (subst (AreListed (lists root)) first.paths_are listed.0) first.held first.unreadable
  root_stops true paths unlisted (load.Unreadable name) listed stop = absurd (true≢false stop.0)
  root_stops leaves_out paths unlisted load.TooMany listed stop = absurd stop
  root_stops leaves_out paths unlisted (load.BadPath name) listed stop = absurd stop
  root_stops leaves_out paths unlisted (load.SamePath name) listed stop = absurd stop
  root_stops leaves_out paths unlisted load.Memory listed stop = tt

  -- nor are they read if they can't be listed
  unlisted_named : (leaves_out : Bool) → StopsWalk (lists root) leaves_out
      → StopsBelow lists gives leaves_out root root
  unlisted_named false stops = of_root stops
  unlisted_named true stops = (refl, stops)

  pub unlisted_stops : (leaves_out : Bool) (fault : LoadFault)
      → MayNotList (StopsWalk (lists root) leaves_out) root fault → MayStop lists gives leaves_out root fault
  unlisted_stops leaves_out (load.Unreadable name) stop =
      subst (StopsBelow lists gives leaves_out root) (sym stop.0) (unlisted_named leaves_out stop.1)
  unlisted_stops leaves_out load.TooMany stop = absurd stop
  unlisted_stops leaves_out (load.BadPath name) stop = absurd stop
  unlisted_stops leaves_out (load.SamePath name) stop = absurd stop
  unlisted_stops leaves_out load.Memory stop = tt
