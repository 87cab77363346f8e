-- What is said of a fault: its name, a sentence that explains it, and the exit status of a program that stops for it.
-- (The texts and the statuses are this project's own.)
use Rattle.std.specs.Prelude.{ℕ, List, [], codes}
use Rattle.proto_lex.specs.FaultNames.{lex_name}
use Rattle.proto_lex.specs.declared.fault.LexFault.{LexFault}
use Rattle.proto_lex.specs.declared.fault.LexFault.TheVariants as lexing
use Rattle.proto_parse.specs.FaultNames.{syntax_name}
use Rattle.proto_parse.specs.fault.SyntaxFault.{SyntaxFault}
use Rattle.proto_parse.specs.fault.SyntaxFault.TheVariants as parsing
use Rattle.protoscip.specs.declared.fault.Fault.{Fault}
use Rattle.protoscip.specs.declared.fault.Fault.TheVariants.{Spawn, Memory, Unread, Lex, Syntax, Duplicate}
use Rattle.protoscip.specs.declared.fault.Fault.TheVariants.{MissingImport, Unresolved, Ambiguous, OptionGap, Uncertain}
use Rattle.protoscip.specs.declared.fault.Fault.TheVariants.{TooLarge, Write, Read, Answer}
use Rattle.protoscip.specs.Statuses.{memory_status, sources_status, stream_status}

-- the sentence is empty for lack of memory
pub record FaultText : Type 0 where
  pub name : List ℕ
  pub sentence : List ℕ
  pub status : ℕ

abbrev pub said : (name sentence : List ℕ) → (status : ℕ) → FaultText
said name sentence status = record { name = name; sentence = sentence; status = status }

-- a source is refused
abbrev pub refused : (name sentence : List ℕ) → FaultText
refused name sentence = said name sentence sources_status

-- memory ran out
abbrev pub lacking : (name : List ℕ) → FaultText
lacking name = said name [] memory_status

-- ---- of a fault of a text or of its lexing

abbrev pub lex_text : LexFault → FaultText
lex_text lexing.TooLong = refused (lex_name lexing.TooLong) (codes "a source has at most 67108864 bytes")
lex_text (lexing.NotUtf8 at) = refused (lex_name (lexing.NotUtf8 at)) (codes "the bytes from here on aren't UTF-8")
lex_text (lexing.BadByte at) = refused (lex_name (lexing.BadByte at)) (codes "this character can't be here")
lex_text (lexing.OpenString at) =
    refused (lex_name (lexing.OpenString at)) (codes "this string has no end on its line")
lex_text (lexing.OpenComment at) = refused (lex_name (lexing.OpenComment at)) (codes "this comment has no `*/`")
lex_text (lexing.BadEscape at) = refused (lex_name (lexing.BadEscape at)) (codes "this backslash begins no escape")
lex_text (lexing.BadNumber at) =
    refused (lex_name (lexing.BadNumber at)) (codes "these letters and digits are no number")
lex_text lexing.Memory = lacking (lex_name lexing.Memory)

-- ---- of a fault of the parser

abbrev pub syntax_text : SyntaxFault → FaultText
syntax_text (parsing.NotProto3 at) =
    refused (syntax_name (parsing.NotProto3 at))
    (codes "a source begins with `syntax = \"proto3\";`; with `--accept all` it may be proto2")
syntax_text (parsing.CustomOption at) =
    refused (syntax_name (parsing.CustomOption at))
    (codes "`--custom-options skip`, or `--accept all`, reads past options with parentheses")
syntax_text (parsing.Aggregate at) =
    refused (syntax_name (parsing.Aggregate at))
    (codes "`--custom-options skip`, or `--accept all`, reads past values in braces")
syntax_text (parsing.Extend at) =
    refused (syntax_name (parsing.Extend at))
    (codes "`--custom-options skip` reads past `extend`, and `--accept all` reads it")
syntax_text (parsing.TwoPackages at) =
    refused (syntax_name (parsing.TwoPackages at)) (codes "a source has one package statement at most")
syntax_text (parsing.ImportEscape at) =
    refused (syntax_name (parsing.ImportEscape at)) (codes "an import's path is written without `\\`")
syntax_text (parsing.TooDeep at) =
    refused (syntax_name (parsing.TooDeep at)) (codes "messages and groups nest at most 64 deep")
syntax_text (parsing.Grammar at) =
    refused (syntax_name (parsing.Grammar at)) (codes "the grammar wants something else here")
syntax_text parsing.Memory = lacking (syntax_name parsing.Memory)

abbrev pub syntax_sentence : SyntaxFault → List ℕ
syntax_sentence fault = (syntax_text fault).sentence

-- ---- of a fault of a run

-- the sources are refused; reading, writing or the index's size fails; or memory or a thread is lacking
abbrev pub text_of : Fault → FaultText
text_of Spawn = said (codes "Spawn") (codes "no thread could be started; `--workers 1` needs none") memory_status
text_of Memory = lacking (codes "Memory")
text_of (Unread number) = refused (codes "Unreadable") (codes "it can't be read")
text_of (Lex number fault) = lex_text fault
text_of (Syntax number fault) = syntax_text fault
text_of (Duplicate first second) = refused (codes "Duplicate") (codes "this full name is given already")
text_of (MissingImport place) =
    refused (codes "MissingImport") (codes "no source has this path, below ROOT or a folder that `--include DIR` names")
text_of (Unresolved place) = refused (codes "Unresolved") (codes "no type that this source sees has this name")
text_of (Ambiguous place) =
    refused (codes "Ambiguous") (codes "several files that this source sees declare a type of this name")
text_of (OptionGap place) = refused (codes "Option") (codes "nothing that may stand in this option has this name")
text_of (Uncertain place behind) =
    refused (codes "Uncertain")
    (codes "a file that this source sees can't be read: it may declare this name nearer")
text_of TooLarge = said (codes "TooLarge") (codes "an index has at most 2147483647 bytes") stream_status
text_of (Write count) =
    said (codes "Write") (codes "the output can't be made, or its disk is full, or nobody reads it") stream_status
text_of Read = said (codes "Read") (codes "standard input couldn't be read to its end") stream_status
text_of (Answer count) =
    said (codes "Answer") (codes "the answers can't be written: the disk is full, or nobody reads them") stream_status

abbrev pub name_of : Fault → List ℕ
name_of fault = (text_of fault).name

abbrev pub sentence_of : Fault → List ℕ
sentence_of fault = (text_of fault).sentence

abbrev pub status_of : Fault → ℕ
status_of fault = (text_of fault).status
