-- What the lexer and the parser answer about the bytes of a source: that they have a tree, or where a fault is.
use Rattle.std.specs.Prelude.{◌≡◌, ◌⊎◌, ℕ, List, Option, Some, None}
use Rattle.proto_lex.specs.Text.{IsText, IsNoText}
use Rattle.proto_lex.specs.Lexed.{Lexed}
use Rattle.proto_lex.specs.Lexes.{LexesWith}
use Rattle.proto_lex.specs.Faults.{IsFirstFaultWith}
use Rattle.proto_lex.specs.FaultNames.{lex_offset}
use Rattle.proto_lex.specs.declared.fault.LexFault.{LexFault}
use Rattle.proto_parse.specs.dialect.Dialect.{Dialect}
use Rattle.proto_parse.specs.Syntax.{hashes_in}
use Rattle.proto_parse.specs.tree.File.{File}
use Rattle.proto_parse.specs.Derives.{Derives}
use Rattle.proto_parse.specs.Refused.{HasFault}
use Rattle.proto_parse.specs.FaultNames.{syntax_offset}
use Rattle.proto_parse.specs.fault.SyntaxFault.{SyntaxFault}

-- the bytes are a text, with these tokens and comments in the dialect
pub record HasLexing (dialect : Dialect) (bytes : List ℕ) (lexed : Lexed) : Type 0 where
  pub text : IsText bytes
  pub of_bytes : lexed.text ≡ bytes
  pub lexes : LexesWith (hashes_in dialect) bytes lexed.tokens lexed.comments

-- the tokens of the text derive a tree
pub record HasTree (dialect : Dialect) (bytes : List ℕ) : Type 0 where
  pub lexed : Lexed
  pub lexing : HasLexing dialect bytes lexed
  pub tree : File
  pub derives : Derives dialect lexed.text lexed.tokens tree

-- the bytes are no text, or the text has no lexing, for the first fault, which is there
pub record IsUnlexed (dialect : Dialect) (bytes : List ℕ) (at : ℕ) : Type 0 where
  pub fault : LexFault
  pub is_first : IsNoText bytes fault ⊎ (IsText bytes × IsFirstFaultWith (hashes_in dialect) bytes fault)
  pub is_at : lex_offset fault ≡ Some at

-- the text has a lexing, but its tokens have a fault of the grammar, which is there
pub record IsUnparsed (dialect : Dialect) (bytes : List ℕ) (at : ℕ) : Type 0 where
  pub lexed : Lexed
  pub lexing : HasLexing dialect bytes lexed
  pub fault : SyntaxFault
  pub has_fault : HasFault dialect lexed.text lexed.tokens fault
  pub is_at : syntax_offset fault ≡ Some at

-- an answer: no fault, or the offset of one
abbrev pub IsAnswer : Dialect → (bytes : List ℕ) → Option ℕ → Type 0
IsAnswer dialect bytes None = HasTree dialect bytes
IsAnswer dialect bytes (Some at) = IsUnlexed dialect bytes at ⊎ IsUnparsed dialect bytes at
