-- Why files hold no index together: what is said about it, and the exit status. (Texts and statuses are this project's
-- own.)
use Rattle.std.specs.Prelude.{Bool, true, ℕ, List, [], ◌++◌, Option, None, Some, codes, unwrap_or}
use Rattle.std.specs.List.{slice_get}
use Rattle.protoscip.specs.Lines.{path_line, plain_line}
use Rattle.protoscip.specs.Statuses.{memory_status, stream_status}
use Rattle.programs.specs.Causes.{IsReasoned}
use Rattle.programs.specs.FaultTexts.{explained}
use Rattle.programs.specs.IndexFaults.{line_of as line_of_read, explanation_of as explanation_of_read}
use Rattle.programs.specs.IndexFaults.{status_of as status_of_read}
use Rattle.programs.specs.declared.files_fault.FilesFault.{FilesFault}
use Rattle.programs.specs.declared.files_fault.FilesFault.TheVariants.{Read, OtherRoot, OtherEncoding, Twice, TooLarge}
use Rattle.programs.specs.declared.files_fault.FilesFault.TheVariants.{Memory}
use Rattle.programs.specs.declared.files_fault.ToldBy.{ToldBy}
use Rattle.programs.specs.declared.files_fault.ToldBy.TheVariants.{Join, Other}
use Rattle.programs.specs.declared.index_fault.IndexFault.{IndexFault}
use Rattle.programs.specs.declared.index_fault.IndexFault.TheVariants.{Unreadable}
use Rattle.programs.specs.Statuses.{index_status}

-- the path with this number, from 0; empty if there is none
abbrev pub path_at : (paths : List (List ℕ)) → ℕ → List ℕ
path_at paths number = unwrap_or (slice_get paths number) []

-- the line of a path that two indexes have
abbrev pub twice_line : (path earlier later : List ℕ) → List ℕ
twice_line path earlier later = ((path_line path (codes "Twice in ") ++ earlier) ++ codes " and ") ++ later

-- the line about the files with these paths
abbrev pub line_of : (paths : List (List ℕ)) → FilesFault → List ℕ
line_of paths (Read number fault) = line_of_read (path_at paths number) fault
line_of paths (OtherRoot number) = path_line (path_at paths number) (codes "OtherRoot")
line_of paths (OtherEncoding number) = path_line (path_at paths number) (codes "OtherEncoding")
line_of paths (Twice two) = twice_line two.path (path_at paths two.earlier) (path_at paths two.later)
line_of paths TooLarge = plain_line (codes "TooLarge")
line_of paths Memory = plain_line (codes "Memory")

-- what two documents with one path may be done about, behind a line end: only `join` can replace one
abbrev pub twice_explanation : ToldBy → List ℕ
twice_explanation Join = codes "\nboth have a document with this path: --replace takes that of the later one"
twice_explanation Other = codes "\nboth have a document with this path: join --replace takes that of the later one"

-- what explains it, behind a line end; nothing for lack of memory
abbrev pub explanation_of : ToldBy → FilesFault → List ℕ
explanation_of by (Read number fault) = explanation_of_read fault
explanation_of by (OtherRoot number) =
    codes "\nits project root isn't that of the first index: --project-root gives the join one"
explanation_of by (OtherEncoding number) = codes "\nits text encoding isn't that of the first index: an index has one"
explanation_of by (Twice two) = twice_explanation by
explanation_of by TooLarge = codes "\nan index has at most 2147483647 bytes"
explanation_of by Memory = []

-- 5 if a file holds no index or the indexes have no join, 3 if a file can't be read or the join is too large, 4 if
-- memory runs out
abbrev pub status_of : FilesFault → ℕ
status_of (Read number fault) = status_of_read fault
status_of (OtherRoot number) = index_status
status_of (OtherEncoding number) = index_status
status_of (Twice two) = index_status
status_of TooLarge = stream_status
status_of Memory = memory_status

-- the line, explained if that is asked for
abbrev pub told : (by : ToldBy) → (explain : Bool) → (paths : List (List ℕ)) → FilesFault → List ℕ
told by explain paths fault = explained explain (line_of paths fault) (explanation_of by fault)

-- the path of a file, if it can't be read and that is to be explained
abbrev pub unread_if : (explain : Bool) → (path : List ℕ) → IndexFault → Option (List ℕ)
unread_if true path Unreadable = Some path
unread_if explain path fault = None

-- the path of the one of several that can't be read, if that is to be explained
abbrev pub unread_path : (explain : Bool) → (paths : List (List ℕ)) → FilesFault → Option (List ℕ)
unread_path explain paths (Read number fault) = unread_if explain (path_at paths number) fault
unread_path explain paths (OtherRoot number) = None
unread_path explain paths (OtherEncoding number) = None
unread_path explain paths (Twice two) = None
unread_path explain paths TooLarge = None
unread_path explain paths Memory = None

-- and so it is told, with why the file can't be read; `blames` is what may be said of a path
abbrev pub IsTold : (blames : List ℕ → Option (List ℕ) → Type 0) → (by : ToldBy) → (explain : Bool)
    → (paths : List (List ℕ)) → FilesFault → (text : List ℕ) → Type 0
IsTold blames by explain paths fault text =
    IsReasoned blames (unread_path explain paths fault) (told by explain paths fault) text
