-- What becomes of the answer to a command.
use Rattle.std.specs.Prelude.{ℕ, List, Result, Ok, Err}
use Rattle.streams.specs.Writers.{Writer, IsWritten, IsCutOff, IsUntouched}
use Rattle.scip_query.specs.declared.answer_fault.AnswerFault.{AnswerFault}
use Rattle.scip_query.specs.declared.answer_fault.AnswerFault.TheVariants.{Read, Write, Memory}

-- the answer goes out whole, or is cut off; if memory runs out, nothing of it goes out. (Nothing is read.)
abbrev pub Answers : {W : Type 0} → Writer W → List ℕ → Result (Unit {0}) AnswerFault → Type 0
Answers out due (Ok done) = IsWritten out due
Answers out due (Err Read) = ⊥
Answers out due (Err (Write count)) = IsCutOff out due count
Answers out due (Err Memory) = IsUntouched out
