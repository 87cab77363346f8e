-- A run's fault, by the fault of the step that stops. Lack of memory is one fault, whichever step it comes in.
use Rattle.scip_build.specs.declared.fault.BuildFault.{BuildFault}
use Rattle.scip_build.specs.declared.fault.BuildFault.TheVariants as build
use Rattle.scip_build.specs.declared.fault.FileFault.{FileFault}
use Rattle.scip_build.specs.declared.fault.FileFault.TheVariants as file
use Rattle.scip_build.specs.declared.omission.Omission.{Omission}
use Rattle.scip_build.specs.declared.omission.Omission.TheVariants as omitted
use Rattle.std.specs.Prelude.{ℕ}
use Rattle.scip_query.specs.declared.answer_fault.AnswerFault.{AnswerFault}
use Rattle.scip_query.specs.declared.answer_fault.AnswerFault.TheVariants as answer
use Rattle.scip_wire.specs.declared.write_fault.WriteFault.{WriteFault}
use Rattle.scip_wire.specs.declared.write_fault.WriteFault.TheVariants as writing
use Rattle.protoscip.specs.declared.fault.Fault.{Fault}
use Rattle.protoscip.specs.declared.fault.Fault.TheVariants.{Spawn, Memory, Unread, Lex, Syntax, Duplicate}
use Rattle.protoscip.specs.declared.fault.Fault.TheVariants.{MissingImport, Unresolved, Ambiguous, OptionGap, Uncertain}
use Rattle.protoscip.specs.declared.fault.Fault.TheVariants.{TooLarge, Write, Read, Answer}

-- why the file with this number can't be read
abbrev pub fault_of_file : ℕ → FileFault → Fault
fault_of_file number file.Unread = Unread number
fault_of_file number (file.Lex fault) = Lex number fault
fault_of_file number (file.Syntax fault) = Syntax number fault

abbrev pub fault_of_build : BuildFault → Fault
fault_of_build build.Spawn = Spawn
fault_of_build build.Memory = Memory
fault_of_build (build.File number fault) = fault_of_file number fault
fault_of_build (build.Duplicate first second) = Duplicate first second
fault_of_build (build.MissingImport place) = MissingImport place
fault_of_build (build.Unresolved place) = Unresolved place
fault_of_build (build.Ambiguous place) = Ambiguous place
fault_of_build (build.OptionGap place) = OptionGap place

-- the fault for which a run would be refused that skips it; for an uncertain use none would be
abbrev pub fault_of_omission : Omission → Fault
fault_of_omission (omitted.File number fault) = fault_of_file number fault
fault_of_omission (omitted.Duplicate first second) = Duplicate first second
fault_of_omission (omitted.MissingImport place) = MissingImport place
fault_of_omission (omitted.Unresolved place) = Unresolved place
fault_of_omission (omitted.Ambiguous place) = Ambiguous place
fault_of_omission (omitted.OptionGap place) = OptionGap place
fault_of_omission (omitted.Uncertain place behind) = Uncertain place behind

abbrev pub fault_of_writing : WriteFault → Fault
fault_of_writing writing.TooLarge = TooLarge
fault_of_writing (writing.Write count) = Write count

-- a failed write of answers isn't one of an index
abbrev pub fault_of_answering : AnswerFault → Fault
fault_of_answering answer.Read = Read
fault_of_answering (answer.Write count) = Answer count
fault_of_answering answer.Memory = Memory
