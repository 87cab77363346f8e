-- What the program `pages` does.
-- `frees` is what asking whether a folder is free may answer, `gives` what reading a file may give, `blames` what may
-- be said of why it can't be read, and `messages` the stream of messages.
use Rattle.std.specs.Prelude.{◌≡◌, ◌++◌, ℕ, Bool, true, false, List, [], Option, Result, Ok, Err, codes, string_bytes}
use Rattle.std.specs.Prelude.{if◌then◌else◌, map}
use Rattle.source_files.specs.Makers.{MakeFilesOf, making}
use Rattle.source_files.specs.declared.folder_place.FolderPlace.{Ghosts as FolderPlaceOf}
use Rattle.streams.specs.Writers.{IsUntouched, Writer, writing}
use Rattle.scip_records.specs.declared.records.Index.{Index}
use Rattle.source_files.specs.FolderPlaces.{IsEmpty}
use Rattle.source_files.specs.Made.{MadeFile}
use Rattle.scip_site.specs.declared.show_fault.ShowFault.TheVariants.{Write, Memory}
use Rattle.scip_site.specs.Making.{MakesSite}
use Rattle.scip_site.specs.declared.site_fault.SiteFault.{SiteFault}
use Rattle.scip_site.specs.declared.site_fault.SiteFault.TheVariants.{Show}
use Rattle.protoscip.specs.Lines.{path_line}
use Rattle.protoscip.specs.Statuses.{stream_status}
use Rattle.command_line.specs.declared.options.PagesOptions.{PagesOptions}
use Rattle.programs.specs.declared.files_fault.FilesFault.{FilesFault}
use Rattle.programs.specs.declared.files_fault.ToldBy.TheVariants.{Other}
use Rattle.programs.specs.FilesFaults.{IsTold as IsFilesTold, status_of as files_status}
use Rattle.programs.specs.IndexFiles.{IsIndexOf}
use Rattle.programs.specs.Messages.{IsSilent, Says, Tells, TellsOne, memory_line, memory_status}
use Rattle.programs.specs.SiteFaults.{told, status_of}

-- of a folder that isn't free, explained where that is asked for (the texts are this project's own)
abbrev pub taken_told : (explain : Bool) → (out : List ℕ) → List ℕ
taken_told explain out =
    path_line out (codes "NotEmpty")
    ++ (if explain then codes "\nit must be an empty folder, or not exist yet" else [])

-- ---- the place of the pages

-- places of folders before and after a call, and what their trait says of them: what files the folder with a path has;
-- what is known of a folder that a place refuses, and of one that is told to be given up; and what the trait of a
-- folder
-- says, which is put at its place when it is whole
pub record FolderPlaces (P F : Type 0) : Type 1 where
  pub filed : P → List ℕ → Option (List MadeFile)
  pub refuses : P → List ℕ → F → Type 0
  pub gives_up : P → F → Type 0
  pub files : MakeFilesOf F
  pub before : P
  pub after : P

abbrev pub folder_places : {P F : Type 0} → FolderPlaceOf P F → MakeFilesOf F → (before after : P) → FolderPlaces P F
folder_places place files before after = record {
  filed = place.filed;
  refuses = place.refuses_folder;
  gives_up = place.gives_up_folder;
  files = files;
  before = before;
  after = after;
}

-- all are as they were
abbrev pub AreLeft : {P F : Type 0} → FolderPlaces P F → Type 0
AreLeft places = places.after ≡ places.before

-- the folder at a path has the files that were made in a folder, and no others
abbrev pub IsFilled : {P F : Type 0} → FolderPlaces P F → (out : List ℕ) → (whole : F) → Type 0
IsFilled places out whole = places.filed places.after out ≡ (places.files.made whole).files

-- the place with a path was to take a folder, and refused that; all are as they were
abbrev pub IsRefused : {P F : Type 0} → FolderPlaces P F → (out : List ℕ) → (whole : F) → Type 0
IsRefused places out whole = places.refuses places.before out whole × AreLeft places

-- a folder was told to be given up; all are as they were
abbrev pub IsGivenUp : {P F : Type 0} → FolderPlaces P F → (left : F) → Type 0
IsGivenUp places left = places.gives_up places.before left × AreLeft places

-- the pages of an index are made in a folder, in which nothing was before, by their paths there
pub record MakesIn {P F M : Type 0} (gives : List ℕ → Option (List ℕ) → Type 0) (root : List ℕ) (index : Index)
    (places : FolderPlaces P F) (begun whole : F) (messages : Writer M) (made : Result (Unit {0}) SiteFault) : Type 0
  where
    pub nothing : IsEmpty (places.files.made begun)
    pub makes : MakesSite gives root [] index (making places.files begun whole) messages made

-- That folder is put at its place if all pages are made, or the place refuses it; else it is given up. After every
-- fault all places are as they were.
pub data Fills {P F M : Type 0} (gives : List ℕ → Option (List ℕ) → Type 0) (root out : List ℕ) (index : Index)
    (places : FolderPlaces P F) (messages : Writer M) : Result (Unit {0}) SiteFault → Type 0 where
  filled : (begun whole : F) → MakesIn gives root index places begun whole messages (Ok tt)
      → IsFilled places out whole → Fills gives root out index places messages (Ok tt)
  refused : (begun whole : F) → MakesIn gives root index places begun whole messages (Ok tt)
      → IsRefused places out whole → Fills gives root out index places messages (Err (Show Write))
  unmade : {fault : SiteFault} (begun left : F) → MakesIn gives root index places begun left messages (Err fault)
      → IsGivenUp places left → Fills gives root out index places messages (Err fault)
  unbegun : IsUntouched messages → AreLeft places → Fills gives root out index places messages (Err (Show Memory))

-- what becomes of the places by the folder `whole`, in which pages were made, with the answer `made`; `done` is what is
-- answered in the end
pub data Finishes {P F : Type 0} (places : FolderPlaces P F) (out : List ℕ) (whole : F)
    : (made done : Result (Unit {0}) SiteFault) → Type 0 where
  folder_is_put : {made done : Unit {0}} → IsFilled places out whole
      → Finishes places out whole (Ok made) (Ok done)
  folder_is_refused : {made : Unit {0}} → IsRefused places out whole
      → Finishes places out whole (Ok made) (Err (Show Write))
  folder_is_unmade : {fault : SiteFault} → IsGivenUp places whole → Finishes places out whole (Err fault) (Err fault)

-- ---- the program

-- nothing more is said after a success; after a fault its line is, explained if that is asked for, with its status
abbrev pub EndsPaged : {M : Type 0} → (explain : Bool) → Result (Unit {0}) SiteFault → Writer M → (status : ℕ) → Type 0
EndsPaged explain (Ok done) messages status = IsSilent messages status
EndsPaged explain (Err fault) messages status = Tells (told explain fault) (status_of fault) messages status

-- the pages of an index's documents are made, and then it ends
pub record MakesAndEnds {P F M : Type 0} (gives : List ℕ → Option (List ℕ) → Type 0) (options : PagesOptions)
    (index : Index) (places : FolderPlaces P F) (messages : Writer M) (status : ℕ) : Type 0 where
  pub now : M
  pub done : Result (Unit {0}) SiteFault
  pub fills : Fills gives (string_bytes options.root) (string_bytes options.out) index places
      (writing messages.sink messages.before now) done
  pub ends : EndsPaged options.explain done (writing messages.sink now messages.after) status

-- the files hold no index, and nothing is made; or they hold one, and pages are made
pub data ReadsAndMakes {P F M : Type 0} (gives blames : List ℕ → Option (List ℕ) → Type 0) (options : PagesOptions)
    (places : FolderPlaces P F) (messages : Writer M) (status : ℕ) : Type 0 where
  unread : (fault : FilesFault) → IsIndexOf gives (map string_bytes options.indexes.items) (Err fault)
      → AreLeft places
      → TellsOne (IsFilesTold blames Other options.explain (map string_bytes options.indexes.items) fault)
      (files_status fault) messages status
      → ReadsAndMakes gives blames options places messages status
  read : (index : Index) → IsIndexOf gives (map string_bytes options.indexes.items) (Ok index)
      → MakesAndEnds gives options index places messages status
      → ReadsAndMakes gives blames options places messages status

-- the folder for the pages isn't free, or memory ran out, and nothing is made; or it is free, and so it goes on
pub data RunsPages {P F M : Type 0} (frees : List ℕ → Bool → Type 0) (gives blames : List ℕ → Option (List ℕ) → Type 0)
    (options : PagesOptions) (places : FolderPlaces P F) (messages : Writer M) (status : ℕ) : Type 0 where
  taken : frees (string_bytes options.out) false → AreLeft places
      → Tells (taken_told options.explain (string_bytes options.out)) stream_status messages status
      → RunsPages frees gives blames options places messages status
  unasked : AreLeft places
      → Says memory_line memory_status messages status
      → RunsPages frees gives blames options places messages status
  free : frees (string_bytes options.out) true → ReadsAndMakes gives blames options places messages status
      → RunsPages frees gives blames options places messages status
