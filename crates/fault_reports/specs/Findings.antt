-- What a report tells: one finding for each thing that is wrong with a tree, or that its index lacks.
use Rattle.std.specs.Prelude.{ℕ, List, [], ◌++◌, Option, None, Some, codes}
use Rattle.std.specs.Option.{option_map}
use Rattle.diagnostics.specs.Excerpts.{met, quoted}
use Rattle.diagnostics.specs.Places.{column, line_number}
use Rattle.fault_reports.specs.declared.finding.FindingKind.{FindingKind}
use Rattle.fault_reports.specs.declared.finding.FindingKind.TheVariants.{Fault, Skipped, Unresolved, Uncertain}
use Rattle.fault_reports.specs.declared.finding.Point.{Point}

-- a file by its path, as it is shown and as it is in bytes; what it holds, and how many bytes of that come before a
-- place, and before its end, if that is known; without an offset, the whole file
pub record FoundPlace : Type 0 where
  pub path : List ℕ
  pub bytes : List ℕ
  pub text : List ℕ
  pub offset : Option ℕ
  pub end : Option ℕ

-- One thing: the name of the fault, a sentence about it, and where it is; the bytes of a source from the token on that
-- the parser met, or those of what is named there; where a full name is first given that is given again; and the string
-- literals of an import that names no file, which spell its path together.
pub record Found : Type 0 where
  pub kind : FindingKind
  pub name : List ℕ
  pub message : List ℕ
  pub place : Option FoundPlace
  pub met : Option (List ℕ)
  pub named : Option (List ℕ)
  pub first : Option FoundPlace
  pub imported : Option (List ℕ)

-- an offset of a text, its line and its column, each from 1, as editors show them: columns count characters
abbrev pub point_in : (text : List ℕ) → (at : ℕ) → Point
point_in text at = record { at = at; line = line_number text at; column = column text at }

-- where a place begins, and where it ends
abbrev pub start_of : FoundPlace → Option Point
start_of place = option_map (point_in place.text) place.offset

abbrev pub end_of : FoundPlace → Option Point
end_of place = option_map (point_in place.text) place.end

-- the line of a place and its column
abbrev pub line_at : FoundPlace → Option ℕ
line_at place = option_map (λ (point : Point). point.line) (start_of place)

abbrev pub column_at : FoundPlace → Option ℕ
column_at place = option_map (λ (point : Point). point.column) (start_of place)

-- what a kind is called in a line of JSON
abbrev pub word_of : FindingKind → List ℕ
word_of Fault = codes "fault"
word_of Skipped = codes "skipped"
word_of Unresolved = codes "no target"
word_of Uncertain = codes "uncertain"

-- and the level of a result in SARIF (SARIF 2.1.0, section 3.27.10)
abbrev pub level_of : FindingKind → List ℕ
level_of Fault = codes "error"
level_of Skipped = codes "error"
level_of Unresolved = codes "warning"
level_of Uncertain = codes "warning"

-- and a sentence about its other place there (section 3.28.3)
abbrev pub related_of : FindingKind → List ℕ
related_of Fault = codes "it is given here"
related_of Skipped = codes "it is given here"
related_of Unresolved = codes "it is given here"
related_of Uncertain = codes "it can't be read"

-- ---- what is said of it: the token that was met, the sentence, and what is named there

abbrev pub met_text : Option (List ℕ) → List ℕ
met_text None = []
met_text (Some bytes) = met bytes

abbrev pub named_text : Option (List ℕ) → List ℕ
named_text None = []
named_text (Some bytes) = codes ": " ++ quoted bytes

abbrev pub said_of : Found → List ℕ
said_of found = met_text found.met ++ found.message ++ named_text found.named
