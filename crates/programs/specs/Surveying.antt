-- What is told of an index as a whole: how much it has, its records, or what is wrong with it; and with which status.
-- `cause` tells why the last write failed. (Texts and statuses are this project's own.)
use Rattle.std.specs.Prelude.{◌≡◌, ℕ, zero, Bool, true, false, not, List, [], Option, Some, None, codes}
use Rattle.streams.specs.Writers.{Writer}
use Rattle.source_files.specs.declared.cause.Cause.{Cause}
use Rattle.scip_records.specs.declared.records.Index.{Index}
use Rattle.scip_query.specs.Answers.{are_some}
use Rattle.scip_query.specs.JsonAnswers.{json_line, miss_value}
use Rattle.scip_query.specs.Sites.{Numbered, document_named}
use Rattle.scip_query.specs.declared.miss.Miss.TheVariants.{NoDocument}
use Rattle.scip_survey.specs.Counts.{counts_of, counts_text}
use Rattle.scip_survey.specs.FlawForms.{flaws_text}
use Rattle.scip_survey.specs.Flaws.{flaws_of}
use Rattle.scip_survey.specs.Records.{document_records, records_of, records_text}
use Rattle.command_line.specs.declared.verb.Verb.{Verb}
use Rattle.command_line.specs.declared.verb.Verb.TheVariants.{Stats, Print, Lint}
use Rattle.protoscip.specs.Lines.{plain_line}
use Rattle.programs.specs.Messages.{Says, Tells, memory_line, memory_status}
use Rattle.programs.specs.Printing.{Prints}
use Rattle.programs.specs.Statuses.{nothing_status}

-- whether it is told of an index as a whole
abbrev pub surveys : Verb → Bool
surveys Stats = true
surveys Print = true
surveys Lint = true
surveys verb = false

-- a text, if there is one; and whether all is well
pub record Surveyed : Type 0 where
  pub text : Option (List ℕ)
  pub is_sound : Bool

abbrev pub sound : List ℕ → Surveyed
sound text = record { text = Some text; is_sound = true }

abbrev pub linted : (json : Bool) → Index → Surveyed
linted json index =
    record { text = Some (flaws_text json (flaws_of index)); is_sound = not (are_some (flaws_of index)) }

abbrev pub no_document : (json : Bool) → Surveyed
no_document true = record { text = Some (json_line (miss_value NoDocument)); is_sound = false }
no_document false = record { text = None; is_sound = false }

-- the records of the document that a path names
abbrev pub printed_document : (json : Bool) → Option Numbered → Surveyed
printed_document json (Some d) = sound (records_text json (document_records d.document))
printed_document json None = no_document json

-- and of the whole index, where no path is given
abbrev pub printed : (json : Bool) → Index → (path : List ℕ) → Surveyed
printed json index [] = sound (records_text json (records_of index))
printed json index path = printed_document json (document_named index path)

abbrev pub surveyed : (json : Bool) → Index → Verb → (path : List ℕ) → Surveyed
surveyed json index Stats path = sound (counts_text json (counts_of index))
surveyed json index Lint path = linted json index
surveyed json index verb path = printed json index path

-- where something is wrong, the status is that of nothing, unless another is due
abbrev pub status_by : (is_sound : Bool) → (status : ℕ) → ℕ
status_by true status = status
status_by false zero = nothing_status
status_by false status = status

-- the text is printed; or there is none, and that is said
abbrev pub ShowsText : {W M : Type 0} → (cause : W → Option Cause) → Option (List ℕ) → (is_sound : Bool) → Writer W
    → Writer M → (status : ℕ) → Type 0
ShowsText cause (Some text) is_sound out messages status =
    (written : ℕ) × Prints cause text out messages written × (status ≡ status_by is_sound written)
ShowsText cause None is_sound out messages status =
    (out.after ≡ out.before) × Tells (plain_line (codes "NoDocument")) nothing_status messages status

abbrev pub Shows : {W M : Type 0} → (cause : W → Option Cause) → Surveyed → Writer W → Writer M → (status : ℕ) → Type 0
Shows cause told out messages status = ShowsText cause told.text told.is_sound out messages status

-- it is shown; or there is no memory for it, and that is said
pub data EndsSurvey {W M : Type 0} (cause : W → Option Cause) (told : Surveyed) (out : Writer W) (messages : Writer M)
    (status : ℕ) : Type 0 where
  shown : Shows cause told out messages status → EndsSurvey cause told out messages status
  lacks_memory : out.after ≡ out.before → Says memory_line memory_status messages status
      → EndsSurvey cause told out messages status
