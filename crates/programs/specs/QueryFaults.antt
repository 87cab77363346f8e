-- Why commands about the index of files aren't answered: what is said about it, and the exit status. (Texts and
-- statuses are this project's own.)
use Rattle.std.specs.Prelude.{◌≡◌, Bool, ℕ, List, [], Option, codes}
use Rattle.scip_query.specs.AnswerFaults.{name_of as answer_name}
use Rattle.scip_query.specs.declared.answer_fault.AnswerFault.{AnswerFault}
use Rattle.scip_query.specs.declared.answer_fault.AnswerFault.TheVariants as answer
use Rattle.protoscip.specs.Lines.{plain_line}
use Rattle.protoscip.specs.Statuses.{memory_status, stream_status}
use Rattle.programs.specs.FaultTexts.{explained}
use Rattle.programs.specs.FilesFaults.{IsTold as IsFilesTold, status_of as status_of_files}
use Rattle.programs.specs.declared.files_fault.ToldBy.TheVariants.{Other}
use Rattle.programs.specs.declared.query_fault.QueryFault.{QueryFault}
use Rattle.programs.specs.declared.query_fault.QueryFault.TheVariants.{NoIndex, Answers}

-- ---- of reading commands, and of writing answers

-- what explains it, behind a line end; nothing for lack of memory
abbrev pub answer_explanation : AnswerFault → List ℕ
answer_explanation answer.Read = codes "\nstandard input couldn't be read to its end"
answer_explanation (answer.Write count) = codes "\nthe output can't be made, or its disk is full, or nobody reads it"
answer_explanation answer.Memory = []

-- 3 if a stream fails, 4 if memory runs out
abbrev pub answer_status : AnswerFault → ℕ
answer_status answer.Read = stream_status
answer_status (answer.Write count) = stream_status
answer_status answer.Memory = memory_status

-- the line, explained if that is asked for
abbrev pub answer_told : (explain : Bool) → AnswerFault → List ℕ
answer_told explain fault = explained explain (plain_line (answer_name fault)) (answer_explanation fault)

-- ---- of both

-- what is told of the files with these paths; `blames` is what may be said of why a path can't be read
abbrev pub IsTold : (blames : List ℕ → Option (List ℕ) → Type 0) → (explain : Bool) → (paths : List (List ℕ))
    → QueryFault → (text : List ℕ) → Type 0
IsTold blames explain paths (NoIndex fault) text = IsFilesTold blames Other explain paths fault text
IsTold blames explain paths (Answers fault) text = text ≡ answer_told explain fault

abbrev pub status_of : QueryFault → ℕ
status_of (NoIndex fault) = status_of_files fault
status_of (Answers fault) = answer_status fault
