-- What the program `query` answers of the index that files hold.
use Rattle.std.proofs.Common.{ℕ, List, Option, Ok, Err, inl, inr}
use Rattle.std.specs.Prelude.{Result}
use Rattle.streams.specs.Readers.{Reader}
use Rattle.streams.specs.Writers.{Writer}
use Rattle.scip_records.specs.declared.records.Index.{Index}
use Rattle.scip_query.specs.declared.answer_fault.AnswerFault.{AnswerFault}
use Rattle.scip_query.specs.declared.manner.Manner.{Manner}
use Rattle.scip_query.specs.declared.answer_fault.AnswerFault.TheVariants as answer
use Rattle.protoscip.specs.Sessions.{MayAnswer, AreAnswered}
use Rattle.programs.specs.IndexFiles.{IsIndexOf}
use Rattle.programs.specs.Queries.{IsAnswered, Queried}
use Rattle.programs.specs.declared.query_fault.QueryFault.{QueryFault}
use Rattle.programs.specs.declared.query_fault.QueryFault.TheVariants as query

-- why commands aren't answered is why the program stops
abbrev pub outcome_of : Result (Unit {0}) AnswerFault → Result (Unit {0}) QueryFault
outcome_of (Ok done) = Ok done
outcome_of (Err fault) = Err (query.Answers fault)

module _ {R W : Type 0} (manner : Manner) (gives : List ℕ → Option (List ℕ) → Type 0) (paths : List (List ℕ))
    (commands : Reader R) (answers : Writer W) where
  module _ (index : Index) (is : IsIndexOf gives paths (Ok index)) where
    answered : (done : Result (Unit {0}) AnswerFault)
        → AreAnswered manner commands answers index done
        → IsAnswered manner gives paths commands answers done
    answered done are = record { index = index; is = is; are = are }

    -- commands about it are answered, or that stops
    pub told : (done : Result (Unit {0}) AnswerFault)
        → MayAnswer manner commands answers index done
        → Queried manner gives paths commands answers (outcome_of done)
    told (Ok done) are = answered (Ok done) are
    told (Err answer.Read) are = answered (Err answer.Read) are
    told (Err (answer.Write count)) are = answered (Err (answer.Write count)) are
    told (Err answer.Memory) (inl untouched) = inl untouched
    told (Err answer.Memory) (inr are) = inr (answered (Err answer.Memory) are)
