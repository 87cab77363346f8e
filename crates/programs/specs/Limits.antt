-- The limits that an index has to keep: how many files may be left out, and how many sources have to be indexed.
-- (The texts are this project's own.)
use Rattle.std.specs.Prelude.{◌≡◌, ℕ, ◌-◌, Bool, List, ◌++◌, Option, None, Some, Result, Ok, Err}
use Rattle.std.specs.Prelude.{codes, if◌then◌else◌, nat_lt}
use Rattle.std.specs.Fmt.{decimal}
use Rattle.std.specs.List.{count_by}
use Rattle.std.specs.Option.{option_or}
use Rattle.streams.specs.Writers.{Writer}
use Rattle.proto_parse.specs.dialect.Dialect.{Dialect}
use Rattle.source_tree.specs.Files.{TreeFile}
use Rattle.source_tree.specs.Trees.{IsSourceCount}
use Rattle.scip_build.specs.declared.omission.Omission.{Omission}
use Rattle.command_line.specs.declared.options.limits.Limits.{Limits}
use Rattle.protoscip.specs.Lines.{plain_line}
use Rattle.protoscip.specs.declared.fault.Fault.{Fault}
use Rattle.protoscip.specs.ToldLines.{is_skipped_source, left_out}
use Rattle.protoscip.specs.Statuses.{sources_status}
use Rattle.protoscip.specs.Unread.{PathUnread}
use Rattle.programs.specs.declared.limits.LimitFault.{LimitFault}
use Rattle.programs.specs.declared.limits.LimitFault.TheVariants.{TooManySkipped, TooFewSources}
use Rattle.programs.specs.Messages.{SaysOfSuccess, Tells}
use Rattle.programs.specs.TreeRuns.{SaysOmissions}

-- ---- which limit is broken

-- more files are left out than may be
abbrev pub too_many : (most : Option ℕ) → (skipped : ℕ) → Option LimitFault
too_many None skipped = None
too_many (Some most) skipped = if nat_lt most skipped then Some (TooManySkipped skipped most) else None

-- fewer sources are indexed than have to be
abbrev pub too_few : (least : Option ℕ) → (indexed : ℕ) → Option LimitFault
too_few None indexed = None
too_few (Some least) indexed = if nat_lt indexed least then Some (TooFewSources indexed least) else None

-- The limit that an index breaks which lacks this, of a tree with this many sources, without what couldn't be read:
-- that of what is left out, or else the other one. Both count as the line with the numbers does.
abbrev pub broken_by : Limits → (sources : ℕ) → (unread : List PathUnread) → List Omission → Option LimitFault
broken_by limits sources unread told =
    option_or (too_many limits.max_skipped (left_out unread told))
    (too_few limits.min_sources (sources - count_by (is_skipped_source sources) told))

-- the limit that an index of a tree breaks which lacks this, if it breaks one
abbrev pub Breaks : Limits → List TreeFile → (unread : List PathUnread) → List Omission → Option LimitFault → Type 0
Breaks limits tree unread told broken =
    (sources : ℕ) × IsSourceCount tree sources × (broken ≡ broken_by limits sources unread told)

-- the limit that the index of a run breaks; without an index it breaks none
abbrev pub IsBrokenBy : Limits → List TreeFile → (unread : List PathUnread) → (ran : Result (List Omission) Fault)
    → Option LimitFault → Type 0
IsBrokenBy limits tree unread (Ok told) broken = Breaks limits tree unread told broken
IsBrokenBy limits tree unread (Err fault) broken = broken ≡ None

-- `shell` has none
abbrev pub no_limits : Limits
no_limits = record { max_skipped = None; min_sources = None }

-- ---- what is said of it

-- the name in its line; and what explains it, by how many there are, words, and how many there may be, or have to be
pub record LimitSaid : Type 0 where
  pub name : List ℕ
  pub counted : ℕ
  pub words : List ℕ
  pub limit : ℕ

abbrev pub said : (name : List ℕ) → (counted : ℕ) → (words : List ℕ) → (limit : ℕ) → LimitSaid
said name counted words limit = record { name = name; counted = counted; words = words; limit = limit }

abbrev pub said_of : LimitFault → LimitSaid
said_of (TooManySkipped skipped most) =
    said (codes "TooManySkipped") skipped (codes " files are left out, and --max-skipped allows ") most
said_of (TooFewSources indexed least) =
    said (codes "TooFewSources") indexed (codes " sources are indexed, and --min-sources wants ") least

abbrev pub sentence_with : (first : ℕ) → (words : List ℕ) → (second : ℕ) → List ℕ
sentence_with first words second = codes "\n" ++ decimal first ++ words ++ decimal second

abbrev pub sentence_of : LimitFault → List ℕ
sentence_of fault = sentence_with (said_of fault).counted (said_of fault).words (said_of fault).limit

abbrev pub told : (explain : Bool) → LimitFault → List ℕ
told explain fault =
    if explain then plain_line (said_of fault).name ++ sentence_of fault else plain_line (said_of fault).name

-- the exit status
abbrev pub limit_status : ℕ
limit_status = sources_status

-- the end of a run whose index lacks this and breaks a limit: what it lacks is said as after a success, and then the
-- limit; `dialect` is the one with which the former is explained
abbrev pub EndsShort : {M : Type 0} → (none_found : Option (List ℕ) → Type 0) → (explain : Bool)
    → (dialect : Option Dialect) → (real : Bool) → List TreeFile → (unread : List PathUnread) → List Omission
    → LimitFault → Writer M → (status : ℕ) → Type 0
EndsShort {M} none_found explain dialect real tree unread lacks fault messages status =
    (said : M)
    × SaysOmissions SaysOfSuccess none_found dialect real tree unread lacks (record messages { after = said }) 0
    × Tells (told explain fault) limit_status (record messages { before = said }) status
