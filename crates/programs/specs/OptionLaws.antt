-- Laws of an index by options.
-- `lists`, `gives` and `finds` are what the system of files gives.
use Rattle.std.specs.Prelude.{ℕ, Bool, List, Option}
use Rattle.source_tree.specs.Files.{TreeFile}
use Rattle.scip_model.specs.Packages.{Packages}
use Rattle.protoscip.specs.Headline.{Navigates}
use Rattle.protoscip.specs.Indexes.{IsIndexed}
use Rattle.protoscip.specs.declared.recorded.Recorded.{Recorded}
use Rattle.protoscip.specs.Unread.{PathUnread}
use Rattle.command_line.specs.declared.options.IndexOptions.{IndexOptions}
use Rattle.programs.specs.Settings.{allowed_by, settings_in}
use Rattle.programs.specs.Folders.{AreFolders}
use Rattle.source_files.specs.Listings.{Listing}

-- The headline, of the tree of the files below the roots of the options, and of the choices and the settings that these
-- say.
abbrev pub HeadlineOfFiles : (lists : List ℕ → List ℕ → Option Listing → Type 0)
    → (gives : List ℕ → Option (List ℕ) → Type 0) → (finds : List ℕ → List ℕ → Bool → Type 0) → IndexOptions → Type 0
HeadlineOfFiles lists gives finds options =
    (tree : List TreeFile) (unread : List PathUnread) (ids : Packages)
    → AreFolders lists gives finds options tree unread ids
    → (recorded : Recorded) (bytes : List ℕ)
    → (indexed : IsIndexed (allowed_by options) (settings_in options ids) tree recorded bytes)
    → Navigates (allowed_by options) (settings_in options ids) tree recorded bytes indexed.index
