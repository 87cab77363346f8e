-- What explains a fault by the system's own words: why it refused what it was asked for. (The form of the lines is this
-- project's own.)
use Rattle.std.specs.Prelude.{◌≡◌, ◌<◌, ℕ, Bool, true, false, List, [], ◌∷◌, ◌++◌, Option, None, Some, Result, Ok, Err}
use Rattle.std.specs.Prelude.{codes, string_bytes}
use Rattle.std.specs.Option.{option_map, unwrap_or}
use Rattle.std.specs.declared.alloc.AllocError.{AllocError}
use Rattle.streams.specs.Writers.{AreTold, IsUntouched, Writer}
use Rattle.source_files.specs.Causes.{words_of}
use Rattle.source_files.specs.declared.cause.Cause.{Cause}
use Rattle.command_line.specs.declared.request.Request.{Request}
use Rattle.command_line.specs.declared.request.Request.TheVariants.{Ask, Dump, Query, Snapshot, Pages, Join}
use Rattle.command_line.specs.declared.request.Request.TheVariants.{Index, Shell}
use Rattle.command_line.specs.declared.request.Request.TheVariants.{Print, Refuse}
use Rattle.programs.specs.Asked.{report_path}

-- ---- why a path can't be read

-- a line behind a line end, if there is one
abbrev pub behind : Option (List ℕ) → List ℕ
behind None = []
behind (Some line) = codes "\n" ++ line

-- what is told; and behind it, if there is a path that can't be read, why, if anything is said of that. `blames` is
-- what may be said of a path.
abbrev pub IsReasoned : (blames : List ℕ → Option (List ℕ) → Type 0) → (path : Option (List ℕ)) → (told text : List ℕ)
    → Type 0
IsReasoned blames None told text = text ≡ told
IsReasoned blames (Some path) told text =
    (why : Option (List ℕ)) × blames path why × (text ≡ told ++ behind why)

-- ---- why something can't be written

-- what is asked for, and that its faults are explained
abbrev pub is_explained : Result Request AllocError → Bool
is_explained (Ok (Dump options)) = options.explain
is_explained (Ok (Query options)) = options.explain
is_explained (Ok (Ask options)) = options.explain
is_explained (Ok (Snapshot options)) = options.explain
is_explained (Ok (Pages options)) = options.explain
is_explained (Ok (Join options)) = options.explain
is_explained (Ok (Index given)) = given.options.explain
is_explained (Ok (Shell given)) = given.options.explain
is_explained (Ok (Print text)) = false
is_explained (Ok (Refuse text)) = false
is_explained (Err refused) = false

-- the path of what is made: of an index, that of a join too, or of the folder of snapshots or of pages; else empty
abbrev pub made_name : Result Request AllocError → List ℕ
made_name (Ok (Dump options)) = []
made_name (Ok (Query options)) = []
made_name (Ok (Ask options)) = []
made_name (Ok (Snapshot options)) = unwrap_or (option_map string_bytes options.to) []
made_name (Ok (Pages options)) = string_bytes options.out
made_name (Ok (Join options)) = string_bytes options.out
made_name (Ok (Index given)) = string_bytes given.out
made_name (Ok (Shell given)) = []
made_name (Ok (Print text)) = []
made_name (Ok (Refuse text)) = []
made_name (Err refused) = []

-- the path of a report; else empty
abbrev pub report_name : Result Request AllocError → List ℕ
report_name (Ok request) = unwrap_or (report_path request) []
report_name (Err refused) = []

-- `NAME: WORDS`, if there is a cause
abbrev pub cause_lines : (name : List ℕ) → Option Cause → List (List ℕ)
cause_lines name None = []
cause_lines name (Some cause) = (name ++ codes ": " ++ words_of cause) ∷ []

-- After the run that was asked for has ended with a status: if it isn't a success and is to be explained, lines say why
-- the last call failed by which something was made, by which the report was, and by which output was written, where the
-- system gave a cause. `made` and `report` are what may be told of the first two, and `output` is the third. Else
-- nothing is said.
pub data ExplainsFailure {M : Type 0} (made report : Option Cause → Type 0) (output : Option Cause)
    (asked : Result Request AllocError) (status : ℕ) (messages : Writer M) : Type 0 where
  succeeded : status ≡ 0 → IsUntouched messages → ExplainsFailure made report output asked status messages
  unexplained : is_explained asked ≡ false → IsUntouched messages
      → ExplainsFailure made report output asked status messages
  explained : (of_made of_report : Option Cause) → 0 < status → is_explained asked ≡ true → made of_made
      → report of_report
      → AreTold messages (cause_lines (made_name asked) of_made ++ cause_lines (report_name asked) of_report
      ++ cause_lines (codes "standard output") output)
      → ExplainsFailure made report output asked status messages
