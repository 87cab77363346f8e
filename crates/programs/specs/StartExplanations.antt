-- What is added to the line of why a program about a tree doesn't start, if that is to be explained. (The texts are
-- this project's own.)
use Rattle.std.specs.Prelude.{Bool, true, ℕ, List, [], ◌++◌, Option, None, Some, codes, string_bytes, if◌then◌else◌}
use Rattle.source_files.specs.declared.load_fault.LoadFault.TheVariants.{Unreadable, Memory}
use Rattle.programs.specs.declared.start_fault.StartFault.{StartFault}
use Rattle.programs.specs.declared.start_fault.StartFault.TheVariants.{BadPart, BadFolder, Load, Unlisted}
use Rattle.programs.specs.Causes.{IsReasoned}
use Rattle.programs.specs.StartFaults.{line_of, sentence_of}

-- the sentence about it is said behind a line end; but not of a fault of the command line, nor of lack of memory
abbrev pub explanation_of : StartFault → List ℕ
explanation_of BadPart = []
explanation_of (BadFolder path) = []
explanation_of (Load Memory) = []
explanation_of fault = codes "\n" ++ sentence_of fault

abbrev pub told : (explain : Bool) → StartFault → List ℕ
told explain fault = line_of fault ++ (if explain then explanation_of fault else [])

-- the path of what can't be read, if that is to be explained
abbrev pub unread_path : (explain : Bool) → StartFault → Option (List ℕ)
unread_path true (Load (Unreadable name)) = Some (string_bytes name)
unread_path true (Unlisted place path) = Some (string_bytes path)
unread_path explain fault = None

-- and so it is told, with why that can't be read; `blames` is what may be said of a path
abbrev pub IsTold : (blames : List ℕ → Option (List ℕ) → Type 0) → (explain : Bool) → StartFault → (text : List ℕ)
    → Type 0
IsTold blames explain fault text = IsReasoned blames (unread_path explain fault) (told explain fault) text
