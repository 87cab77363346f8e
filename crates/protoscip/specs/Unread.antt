-- How that is told which isn't read below the folders of a run, and is left out of its tree: an entry for each, a
-- folder's path with `/` at its end. (The texts are this project's own.)
use Rattle.std.specs.Prelude.{ℕ, Bool, true, false, List, [], ◌++◌, Option, None, Some, codes}
use Rattle.std.specs.List.{flat_map}
use Rattle.fault_reports.specs.Findings.{Found}
use Rattle.fault_reports.specs.declared.finding.FindingKind.TheVariants.{Skipped}
use Rattle.proto_parse.specs.dialect.Dialect.{Dialect}
use Rattle.protoscip.specs.Lines.{path_line}

-- its path below its root, as it is shown, and the bytes of that; whether it is no good path, or else can't be read
pub record PathUnread : Type 0 where
  pub shown : List ℕ
  pub bytes : List ℕ
  pub is_bad : Bool

abbrev pub unread_name : (is_bad : Bool) → List ℕ
unread_name false = codes "Unreadable"
unread_name true = codes "BadPath"

abbrev pub bad_path_sentence : List ℕ
bad_path_sentence = codes "a path has at most 4096 bytes, and no character below U+0020"

abbrev pub unread_sentence : (is_bad : Bool) → List ℕ
unread_sentence false = codes "it can't be read, or its name isn't UTF-8"
unread_sentence true = bad_path_sentence

-- `protoscip: skipped: PATH: Unreadable`
abbrev pub unread_line : PathUnread → List ℕ
unread_line path = path_line (codes "skipped: " ++ path.shown) (unread_name path.is_bad)

-- what is added to that if it is to be explained
abbrev pub unread_explanation : (explain : Option Dialect) → (is_bad : Bool) → List ℕ
unread_explanation None is_bad = []
unread_explanation (Some dialect) is_bad = codes "\n" ++ unread_sentence is_bad

-- with its end
abbrev pub unread_text : (explain : Option Dialect) → PathUnread → List ℕ
unread_text explain path = unread_line path ++ (unread_explanation explain path.is_bad ++ codes "\n")

-- the lines of all, in their order
abbrev pub unread_lines : (explain : Option Dialect) → List PathUnread → List ℕ
unread_lines explain paths = flat_map (unread_text explain) paths

-- what a report has of it: no place but the path
abbrev pub unread_finding : PathUnread → Found
unread_finding path = record {
  kind = Skipped;
  name = unread_name path.is_bad;
  message = unread_sentence path.is_bad;
  place = Some (record { path = path.shown; bytes = path.bytes; text = []; offset = None; end = None });
  met = None;
  named = None;
  first = None;
  imported = None;
}
