-- Why a file has no contents, by the fault of the step that refuses it: lack of memory is no fault of a file.
use Rattle.std.specs.Prelude.{ℕ, ⊤, Bool, List}
use Rattle.proto_lex.specs.declared.fault.LexFault.{LexFault}
use Rattle.proto_lex.specs.declared.fault.LexFault.TheVariants as lexing
use Rattle.proto_parse.specs.dialect.Dialect.{Dialect}
use Rattle.proto_parse.specs.fault.SyntaxFault.{SyntaxFault}
use Rattle.proto_parse.specs.fault.SyntaxFault.TheVariants as parsing
use Rattle.scip_build.specs.declared.fault.FileFault.TheVariants.{Lex, Syntax}
use Rattle.scip_build.specs.declared.fault.BuildFault.{BuildFault}
use Rattle.scip_build.specs.declared.fault.BuildFault.TheVariants as build
use Rattle.scip_build.specs.declared.file_parsing.NoContents.{NoContents}
use Rattle.scip_build.specs.declared.file_parsing.NoContents.TheVariants.{Memory, Unreadable}
use Rattle.scip_build.specs.Parsed.{IsUnreadable}

abbrev pub fault_of_lexing : LexFault → NoContents
fault_of_lexing lexing.Memory = Memory
fault_of_lexing fault = Unreadable (Lex fault)

abbrev pub fault_of_parsing : SyntaxFault → NoContents
fault_of_parsing parsing.Memory = Memory
fault_of_parsing fault = Unreadable (Syntax fault)

-- why a file that couldn't be read, or has these bytes, has no contents; nothing is said about memory
abbrev pub MayRefuseFile : Dialect → (is_unread : Bool) → (bytes : List ℕ) → NoContents → Type 0
MayRefuseFile dialect is_unread bytes Memory = ⊤
MayRefuseFile dialect is_unread bytes (Unreadable fault) = IsUnreadable dialect is_unread bytes fault

-- the fault of a build that stops since the file with this number has no contents
abbrev pub fault_of_file : (number : ℕ) → NoContents → BuildFault
fault_of_file number Memory = build.Memory
fault_of_file number (Unreadable fault) = build.File number fault
