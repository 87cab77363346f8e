-- What is said about a fault of answering.
use Rattle.std.specs.Prelude.{ℕ, List, codes}
use Rattle.scip_query.specs.declared.answer_fault.AnswerFault.{AnswerFault}
use Rattle.scip_query.specs.declared.answer_fault.AnswerFault.TheVariants.{Read, Write, Memory}

abbrev pub name_of : AnswerFault → List ℕ
name_of Read = codes "Read"
name_of (Write count) = codes "Write"
name_of Memory = codes "Memory"
