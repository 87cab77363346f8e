-- What would replace the list of the sources: the index, or the report. (The texts are this project's own.)
-- `index` and `report` are what asking whether the file with a path is the one at the place of either may answer.
use Rattle.std.specs.Prelude.{◌≡◌, ⊤, ℕ, Bool, true, false, List, Option, Some, None, String, codes, string_bytes}
use Rattle.std.specs.Prelude.{IfSome}
use Rattle.std.specs.Global.{Global}
use Rattle.std.specs.Str.{bytes_eq}
use Rattle.command_line.specs.declared.options.IndexOptions.{IndexOptions}
use Rattle.command_line.specs.declared.options.IndexRequest.{IndexRequest}
use Rattle.command_line.specs.declared.options.ShellRequest.{ShellRequest}
use Rattle.command_line.specs.declared.options.sources.SourceList.{SourceList}
use Rattle.command_line.specs.declared.request.Request.{Request}
use Rattle.command_line.specs.declared.request.Request.TheVariants as request

-- whether the file of a list is said to be the one at a place; standard input is none
abbrev pub IsFileThere : (same : List ℕ → Bool → Type 0) → (is_input : Bool) → (file : List ℕ) → Bool → Type 0
IsFileThere same true file answer = answer ≡ false
IsFileThere same false file answer = same file answer

-- the same of the list that is asked for, if one is
abbrev pub IsListThere : (same : List ℕ → Bool → Type 0) → Option SourceList → Bool → Type 0
IsListThere same None answer = answer ≡ false
IsListThere same (Some list) answer =
    IsFileThere same (bytes_eq (string_bytes list.file) (codes "-")) (string_bytes list.file) answer

abbrev pub index_sentence : List ℕ
index_sentence = codes "it is the list of the sources, or a link to it; the index would replace it"

abbrev pub report_sentence : List ℕ
report_sentence = codes "it is the list of the sources, or a link to it; the report would replace it"

-- the report doesn't
abbrev pub ReportLeaves : (report : List ℕ → Bool → Type 0) → IndexOptions → Type 0
ReportLeaves report options = IfSome options.report.path (λ _. IsListThere report options.sources false)

-- neither does
abbrev pub LeaveList : (index report : List ℕ → Bool → Type 0) → Request → Type 0
LeaveList index report (request.Index given) =
    IsListThere index given.options.sources false × ReportLeaves report given.options
LeaveList index report (request.Shell given) = ReportLeaves report given.options
LeaveList index report other = ⊤

-- the report has a path, and does
pub record ReportReplaces (report : List ℕ → Bool → Type 0) (options : IndexOptions) (path sentence : List ℕ)
    : Type 0 where
  pub named : String Global
  pub asked : options.report.path ≡ Some named
  pub path_is : path ≡ string_bytes named
  pub there : IsListThere report options.sources true
  pub sentence_is : sentence ≡ report_sentence

-- the first that does, its path, and a sentence about it
pub data ReplacesList (index report : List ℕ → Bool → Type 0)
    : Request → (path sentence : List ℕ) → (explain : Bool) → Type 0 where
  index_replaces : {given : IndexRequest} → IsListThere index given.options.sources true
      → ReplacesList index report (request.Index given) (string_bytes given.out) index_sentence given.options.explain
  report_of_index : {given : IndexRequest} {path sentence : List ℕ} → IsListThere index given.options.sources false
      → ReportReplaces report given.options path sentence
      → ReplacesList index report (request.Index given) path sentence given.options.explain
  report_of_shell : {given : ShellRequest} {path sentence : List ℕ} → ReportReplaces report given.options path sentence
      → ReplacesList index report (request.Shell given) path sentence given.options.explain
