-- How the programs about a tree end: `index` and `shell`.
-- `lists`, `gives` and `finds` are what the system of files gives, and `messages` is the stream of messages.
-- `none_found` says which line, if any, is said of a tree whose index lacks nothing: that it has no source.
use Rattle.std.specs.Prelude.{◌≡◌, ℕ, Bool, List, [], ◌∷◌, Option, Some, None, Result, Ok, Err}
use Rattle.streams.specs.Writers.{Writer}
use Rattle.proto_parse.specs.dialect.Dialect.{Dialect}
use Rattle.source_tree.specs.Files.{TreeFile}
use Rattle.source_tree.specs.Trees.{IsSourceCount}
use Rattle.scip_model.specs.Packages.{Packages}
use Rattle.scip_build.specs.declared.omission.Omission.{Omission}
use Rattle.scip_records.specs.declared.records.Index.{Index}
use Rattle.protoscip.specs.declared.fault.Fault.{Fault}
use Rattle.protoscip.specs.declared.recorded.Recorded.{Recorded}
use Rattle.protoscip.specs.Explanations.{IsFaultText}
use Rattle.protoscip.specs.Headline.{IsNavigable}
use Rattle.protoscip.specs.FaultTexts.{status_of}
use Rattle.protoscip.specs.ToldLines.{IsToldTextWith}
use Rattle.protoscip.specs.Unread.{PathUnread}
use Rattle.command_line.specs.declared.options.IndexOptions.{IndexOptions}
use Rattle.programs.specs.Messages.{SaysIfAny, TellsOne}
use Rattle.programs.specs.Missing.{IsWithMissing}
use Rattle.programs.specs.Folders.{AreFolders}
use Rattle.programs.specs.Settings.{allowed_by, settings_in}
use Rattle.source_files.specs.Listings.{Listing}

-- a line for each thing that couldn't be read or that an index lacks, then their numbers, and for a tree as it lies
-- what is missing
abbrev pub IsWholeText : (explain : Option Dialect) → (real : Bool) → List TreeFile → (sources : ℕ)
    → (unread : List PathUnread) → List Omission → (text : List ℕ) → Type 0
IsWholeText explain real tree sources unread told text =
    (front : List ℕ) × IsToldTextWith explain tree sources unread told front × IsWithMissing real tree told front text

-- the same, by the number of the tree's sources
abbrev pub IsSomeWholeText : (explain : Option Dialect) → (real : Bool) → List TreeFile → (unread : List PathUnread)
    → List Omission → Option (List ℕ) → Type 0
IsSomeWholeText explain real tree unread told text =
    (sources : ℕ) × IsSourceCount tree sources
    × ((said : List ℕ) × IsWholeText explain real tree sources unread told said × (text ≡ Some said))

-- what is said of an index that lacks this: nothing if nothing is lacking, else all that
abbrev pub IsWholeTextIfAny : (explain : Option Dialect) → (real : Bool) → List TreeFile → (unread : List PathUnread)
    → List Omission → Option (List ℕ) → Type 0
IsWholeTextIfAny explain real tree [] [] text = text ≡ None
IsWholeTextIfAny explain real tree [] (first ∷ others) text = IsSomeWholeText explain real tree [] (first ∷ others) text
IsWholeTextIfAny explain real tree (path ∷ unread) told text = IsSomeWholeText explain real tree (path ∷ unread) told text

-- `says` says how a text with a property is written after a success: here all that
abbrev pub SaysAll : {M : Type 0} → (says : (List ℕ → Type 0) → Writer M → (status : ℕ) → Type 0)
    → (explain : Option Dialect) → (real : Bool) → List TreeFile → (unread : List PathUnread) → List Omission → Writer M
    → (status : ℕ) → Type 0
SaysAll says explain real tree unread told messages status =
    (sources : ℕ) × IsSourceCount tree sources
    × says (IsWholeText explain real tree sources unread told) messages status

-- the end of a run that made an index which lacks this, of a tree without what couldn't be read. If nothing is lacking,
-- the line of none found is said, if there is one; else all that is
abbrev pub SaysOmissions : {M : Type 0} → (says : (List ℕ → Type 0) → Writer M → (status : ℕ) → Type 0)
    → (none_found : Option (List ℕ) → Type 0) → (explain : Option Dialect) → (real : Bool) → List TreeFile
    → (unread : List PathUnread) → List Omission → Writer M → (status : ℕ) → Type 0
SaysOmissions says none_found explain real tree [] [] messages status =
    (line : Option (List ℕ)) × none_found line × SaysIfAny line messages status
SaysOmissions says none_found explain real tree [] (first ∷ others) messages status =
    SaysAll says explain real tree [] (first ∷ others) messages status
SaysOmissions says none_found explain real tree (path ∷ unread) told messages status =
    SaysAll says explain real tree (path ∷ unread) told messages status

-- the end of a run over a tree: after a success, what is told of it is said; after a fault, the line of the fault
-- alone, explained if that is asked for, with its status
abbrev pub Ends : {M A : Type 0} → (says : (List ℕ → Type 0) → Writer M → (status : ℕ) → Type 0)
    → (none_found : Option (List ℕ) → Type 0) → (explain : Option Dialect) → (real : Bool) → List TreeFile
    → (unread : List PathUnread) → (A → List Omission) → Result A Fault → Writer M → (status : ℕ) → Type 0
Ends says none_found explain real tree unread told_of (Ok done) messages status =
    SaysOmissions says none_found explain real tree unread (told_of done) messages status
Ends says none_found explain real tree unread told_of (Err fault) messages status =
    TellsOne (IsFaultText explain tree fault) (status_of fault) messages status

-- There is a tree of the files that the options name, but for what couldn't be read, and an index of it by what they
-- allow and say navigates it; `goes` says what becomes of its bytes and of it.
pub record AreNavigable (lists : List ℕ → List ℕ → Option Listing → Type 0)
    (gives : List ℕ → Option (List ℕ) → Type 0) (finds : List ℕ → List ℕ → Bool → Type 0)
    (options : IndexOptions) (goes : (bytes : List ℕ) → Index → Type 0) : Type 0 where
  pub tree : List TreeFile
  pub unread : List PathUnread
  pub ids : Packages
  pub recorded : Recorded
  pub folders : AreFolders lists gives finds options tree unread ids
  pub navigable : IsNavigable goes (allowed_by options) (settings_in options ids) tree recorded
