-- What the program `query` answers of the index that files hold.
-- `gives` is what reading a file may give, and `paths` are those of the files.
use Rattle.std.specs.Prelude.{◌⊎◌, ℕ, List, Option, Result, Ok, Err}
use Rattle.streams.specs.Readers.{Reader}
use Rattle.streams.specs.Writers.{Writer}
use Rattle.scip_records.specs.declared.records.Index.{Index}
use Rattle.scip_query.specs.declared.answer_fault.AnswerFault.{AnswerFault}
use Rattle.scip_query.specs.declared.manner.Manner.{Manner}
use Rattle.scip_query.specs.declared.answer_fault.AnswerFault.TheVariants as answer
use Rattle.protoscip.specs.Sessions.{AreAnswered, AreUntouched}
use Rattle.programs.specs.IndexFiles.{IsIndexOf}
use Rattle.programs.specs.declared.query_fault.QueryFault.{QueryFault}
use Rattle.programs.specs.declared.query_fault.QueryFault.TheVariants.{NoIndex, Answers}

-- the index is read, and answers go out to commands about it
pub record IsAnswered {R W : Type 0} (manner : Manner) (gives : List ℕ → Option (List ℕ) → Type 0)
    (paths : List (List ℕ)) (commands : Reader R) (answers : Writer W) (answered : Result (Unit {0}) AnswerFault)
    : Type 0 where
  pub index : Index
  pub is : IsIndexOf gives paths (Ok index)
  pub are : AreAnswered manner commands answers index answered

-- all commands are answered; or reading them or writing answers stops; or memory ran out before an answer, or before
-- the first; or there is no index
abbrev pub Queried : {R W : Type 0} → Manner → (gives : List ℕ → Option (List ℕ) → Type 0) → (paths : List (List ℕ))
    → Reader R → Writer W → Result (Unit {0}) QueryFault → Type 0
Queried manner gives paths commands answers (Ok done) = IsAnswered manner gives paths commands answers (Ok done)
Queried manner gives paths commands answers (Err (Answers answer.Memory)) =
    AreUntouched commands answers ⊎ IsAnswered manner gives paths commands answers (Err answer.Memory)
Queried manner gives paths commands answers (Err (Answers fault)) =
    IsAnswered manner gives paths commands answers (Err fault)
Queried manner gives paths commands answers (Err (NoIndex fault)) =
    IsIndexOf gives paths (Err fault) × AreUntouched commands answers
