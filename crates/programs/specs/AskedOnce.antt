-- What is asked in one line about the index that files hold: what is answered, in which form, and with which status.
-- `gives` is what reading a file may give, `blames` what may be said of why it can't be read, `cause` why the last write
-- failed, and `messages` the stream of messages. (Texts and statuses are this project's own.)
use Rattle.std.specs.Prelude.{◌≡◌, ℕ, Bool, true, false, ◌||◌, List, [], ◌∷◌, ◌++◌, Option, Some, None, Ok, Err, map, codes}
use Rattle.std.specs.Prelude.{string_bytes}
use Rattle.std.specs.Option.{option_map}
use Rattle.streams.specs.Writers.{Writer}
use Rattle.source_files.specs.declared.cause.Cause.{Cause}
use Rattle.scip_records.specs.declared.records.Index.{Index}
use Rattle.scip_query.specs.Answers.{Answer, Misses, is_found, more_given_to}
use Rattle.scip_query.specs.AskedInLine.{asked_about}
use Rattle.scip_query.specs.JsonAnswers.{answer_value, json_line}
use Rattle.scip_query.specs.MoreCommands as more
use Rattle.scip_query.specs.declared.command.Question.TheVariants.{Definitions, References, Documentation}
use Rattle.scip_query.specs.declared.miss.Miss.TheVariants.{NoDocument, NothingThere}
use Rattle.scip_pages.specs.Told.{told}
use Rattle.scip_pages.specs.ToldPlaces.{place_path, placed}
use Rattle.scip_pages.specs.declared.told.Source.{Source}
use Rattle.scip_site.specs.Sources.{AreSourcesFor, AreSourcesOf}
use Rattle.command_line.specs.declared.options.AskOptions.{AskOptions}
use Rattle.command_line.specs.declared.verb.Verb.{Verb}
use Rattle.command_line.specs.declared.verb.Verb.TheVariants.{Def, Ref, Hover, Outline, Find}
use Rattle.protoscip.specs.Lines.{plain_line}
use Rattle.programs.specs.declared.files_fault.FilesFault.{FilesFault}
use Rattle.programs.specs.declared.files_fault.ToldBy.TheVariants.{Other}
use Rattle.programs.specs.FilesFaults.{IsTold as IsFilesTold, status_of as files_status}
use Rattle.programs.specs.IndexFiles.{IsIndexOf}
use Rattle.programs.specs.Messages.{Says, Tells, TellsOne, memory_line, memory_status}
use Rattle.programs.specs.Printing.{Prints}
use Rattle.programs.specs.Statuses.{nothing_status}
use Rattle.scip_survey.specs.Near.{nearest_name}
use Rattle.programs.specs.Surveying.{EndsSurvey, status_by, surveyed, surveys}

-- ---- what is answered

-- the command of the command language, or one that no line of it spells
abbrev pub command_of : Verb → List ℕ → Option more.MoreCommand
command_of Def text = asked_about Definitions text
command_of Ref text = asked_about References text
command_of Hover text = asked_about Documentation text
command_of Outline text = Some (more.Outline text)
command_of Find text = Some (more.Find text)
command_of verb text = None

-- with sources below a root, a place counts characters of its line
abbrev pub IsPlacedIn : (gives : List ℕ → Option (List ℕ) → Type 0) → (root : List ℕ) → Index → (path : Option (List ℕ))
    → (asked placed : more.MoreCommand) → Type 0
IsPlacedIn gives root index None asked command = command ≡ asked
IsPlacedIn gives root index (Some path) asked command =
    (sources : List Source) × AreSourcesOf gives root index (path ∷ []) sources × (command ≡ placed sources asked)

abbrev pub IsPlacedBelow : (gives : List ℕ → Option (List ℕ) → Type 0) → (root : List ℕ) → Index
    → (asked placed : more.MoreCommand) → Type 0
IsPlacedBelow gives root index asked command = IsPlacedIn gives root index (place_path asked) asked command

-- and without them, it counts as its document does
abbrev pub IsPlaced : (gives : List ℕ → Option (List ℕ) → Type 0) → (root : Option (List ℕ)) → Index
    → (asked placed : more.MoreCommand) → Type 0
IsPlaced gives None index asked command = command ≡ asked
IsPlaced gives (Some root) index asked command = IsPlacedBelow gives root index asked command

-- its answer; nothing is there that has no name
abbrev pub MayGive : (gives : List ℕ → Option (List ℕ) → Type 0) → (root : Option (List ℕ)) → Index
    → Option more.MoreCommand → Answer → Type 0
MayGive gives root index None answer = answer ≡ Misses NothingThere
MayGive gives root index (Some asked) answer =
    (command : more.MoreCommand) × IsPlaced gives root index asked command × (answer ≡ more_given_to index command)

-- what may be answered, by what reading the source of a place gives
abbrev pub MayAnswer : (gives : List ℕ → Option (List ℕ) → Type 0) → AskOptions → Index → Answer → Type 0
MayAnswer gives options index answer =
    MayGive gives (option_map string_bytes options.root) index (command_of options.verb (string_bytes options.asked))
    answer

-- ---- in which form

-- the sources that are shown: those of the answer's documents below the root, if there is one
abbrev pub MayShow : (gives : List ℕ → Option (List ℕ) → Type 0) → (root : Option (List ℕ)) → Index → (path : List ℕ)
    → Answer → List Source → Type 0
MayShow gives None index path answer sources = sources ≡ []
MayShow gives (Some root) index path answer sources = AreSourcesFor gives root index path answer sources

-- a line of JSON; or lines, with the sources that are shown
abbrev pub IsForm : (gives : List ℕ → Option (List ℕ) → Type 0) → AskOptions → Index → (json : Bool) → Answer
    → (text : List ℕ) → Type 0
IsForm gives options index true answer text = text ≡ json_line (answer_value answer)
IsForm gives options index false answer text =
    (sources : List Source)
    × MayShow gives (option_map string_bytes options.root) index (string_bytes options.asked) answer sources
    × (text ≡ told sources (string_bytes options.asked) answer)

-- ---- and how it ends

-- whether a command asks for a name
abbrev pub asks_by_name : Option more.MoreCommand → Bool
asks_by_name (Some (more.Named question name)) = true
asks_by_name (Some (more.Find text)) = true
asks_by_name command = false

-- which name is nearest to one that nothing has
abbrev pub near_text : Option (List ℕ) → List ℕ
near_text None = []
near_text (Some name) = codes ", nearest: " ++ name

abbrev pub nearest_text : (by_name : Bool) → Index → List ℕ → List ℕ
nearest_text true index text = near_text (nearest_name index text)
nearest_text false index text = []

-- what is said where nothing is found, but in JSON
abbrev pub miss_name : (by_name : Bool) → Index → List ℕ → Answer → List ℕ
miss_name by_name index text (Misses NoDocument) = codes "NoDocument"
miss_name by_name index text answer = codes "NothingThere" ++ nearest_text by_name index text

abbrev pub miss_of : AskOptions → Index → Answer → List ℕ
miss_of options index answer =
    miss_name (asks_by_name (command_of options.verb (string_bytes options.asked))) index (string_bytes options.asked)
    answer

-- the form is printed, or the miss is said
abbrev pub ShowsBy : {W M : Type 0} → (cause : W → Option Cause) → (is_shown is_found : Bool) → (miss text : List ℕ)
    → Writer W → Writer M → (status : ℕ) → Type 0
ShowsBy cause true found miss text out messages status =
    (printed : ℕ) × Prints cause text out messages printed × (status ≡ status_by found printed)
ShowsBy cause false found miss text out messages status =
    (out.after ≡ out.before) × Tells (plain_line miss) nothing_status messages status

-- in JSON also where nothing is found
abbrev pub Shows : {W M : Type 0} → (cause : W → Option Cause) → AskOptions → Index → Answer → (text : List ℕ)
    → Writer W → Writer M → (status : ℕ) → Type 0
Shows cause options index answer text out messages status =
    ShowsBy cause (is_found answer || options.json) (is_found answer) (miss_of options index answer) text out messages
    status

-- the answer, in its form, is shown; or there is no memory for it, and that is said
pub data EndsAsked {W M : Type 0} (gives : List ℕ → Option (List ℕ) → Type 0) (cause : W → Option Cause)
    (options : AskOptions) (index : Index) (out : Writer W) (messages : Writer M) (status : ℕ) : Type 0 where
  shown : (answer : Answer) → MayAnswer gives options index answer → (text : List ℕ)
      → IsForm gives options index options.json answer text → Shows cause options index answer text out messages status
      → EndsAsked gives cause options index out messages status
  lacks_memory : out.after ≡ out.before → Says memory_line memory_status messages status
      → EndsAsked gives cause options index out messages status

-- a question, or what is told of the index as a whole
abbrev pub EndsBy : {W M : Type 0} → (gives : List ℕ → Option (List ℕ) → Type 0) → (cause : W → Option Cause)
    → AskOptions → Index → (surveys : Bool) → Writer W → Writer M → (status : ℕ) → Type 0
EndsBy gives cause options index true out messages status =
    EndsSurvey cause (surveyed options.json index options.verb (string_bytes options.asked)) out messages status
EndsBy gives cause options index false out messages status = EndsAsked gives cause options index out messages status

-- the files hold no index, and nothing is printed; or they hold one, and it is answered
pub data RunsAsked {W M : Type 0} (gives blames : List ℕ → Option (List ℕ) → Type 0) (cause : W → Option Cause)
    (options : AskOptions) (out : Writer W) (messages : Writer M) (status : ℕ) : Type 0 where
  unread : (fault : FilesFault) → IsIndexOf gives (map string_bytes options.indexes.items) (Err fault)
      → out.after ≡ out.before
      → TellsOne (IsFilesTold blames Other options.explain (map string_bytes options.indexes.items) fault)
      (files_status fault) messages status
      → RunsAsked gives blames cause options out messages status
  read : (index : Index) → IsIndexOf gives (map string_bytes options.indexes.items) (Ok index)
      → EndsBy gives cause options index (surveys options.verb) out messages status
      → RunsAsked gives blames cause options out messages status
