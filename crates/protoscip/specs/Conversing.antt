-- What becomes of commands about an index, which are answered from its bytes.
use Rattle.std.specs.Prelude.{ℕ, ◌<◌, ◌≤◌, length, Result, Ok, Err}
use Rattle.streams.specs.Readers.{Reader}
use Rattle.streams.specs.Writers.{Writer}
use Rattle.scip_records.specs.declared.records.Index.{Index}
use Rattle.scip_query.specs.declared.answer_fault.AnswerFault.{AnswerFault}
use Rattle.scip_query.specs.declared.manner.Manner.{Manner}
use Rattle.scip_query.specs.declared.answer_fault.AnswerFault.TheVariants as answer
use Rattle.scip_wire.specs.Spelling.{spelling_of, max_index_len}
use Rattle.protoscip.specs.Indexes.{IsSpelled}
use Rattle.protoscip.specs.Sessions.{AreAnswered, AreUntouched}
use Rattle.protoscip.specs.declared.fault.Fault.{Fault}
use Rattle.protoscip.specs.declared.fault.Fault.TheVariants.{Memory, TooLarge, Read, Answer}

module _ {R W : Type 0} (manner : Manner) (commands : Reader R) (answers : Writer W) where
  -- the index has bytes, and commands are answered from it
  pub record AreAnsweredFrom (index : Index) (answered : Result (Unit {0}) AnswerFault) : Type 0 where
    pub spelled : IsSpelled index (spelling_of index)
    pub are : AreAnswered manner commands answers index answered

-- they are; or reading or writing stops; or the index has too many bytes; or it hasn't, and memory runs out before an
-- answer, or before the first
pub data Converses {R W : Type 0} (manner : Manner) (commands : Reader R) (answers : Writer W) (index : Index)
    : Result (Unit {0}) Fault → Type 0 where
  all_are_answered : {done : Unit {0}} → AreAnsweredFrom manner commands answers index (Ok done)
      → Converses manner commands answers index (Ok done)
  reading_stops : AreAnsweredFrom manner commands answers index (Err answer.Read)
      → Converses manner commands answers index (Err Read)
  writing_stops : {count : ℕ} → AreAnsweredFrom manner commands answers index (Err (answer.Write count))
      → Converses manner commands answers index (Err (Answer count))
  answer_lacks_memory : AreAnsweredFrom manner commands answers index (Err answer.Memory)
      → Converses manner commands answers index (Err Memory)
  first_lacks_memory : length (spelling_of index) ≤ max_index_len → AreUntouched commands answers
      → Converses manner commands answers index (Err Memory)
  has_too_many_bytes : max_index_len < length (spelling_of index) → AreUntouched commands answers
      → Converses manner commands answers index (Err TooLarge)
