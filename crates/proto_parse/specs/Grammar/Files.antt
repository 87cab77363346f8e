-- Files (proto3 specification, "Proto file", "Syntax", "Import statement" and "Package"; proto2 specification, the same
-- and "Extend").
use Rattle.std.specs.Prelude.{◌≡◌, ℕ, true, false, Option, Some, None, option_map, option_to_list, List, [], ◌∷◌, ◌++◌}
use Rattle.std.specs.Prelude.{codes}
use Rattle.proto_lex.specs.declared.span.Span.{Span}
use Rattle.proto_lex.specs.declared.token.TokenKind.TheVariants.{StringLiteral, Semicolon, Equals}
use Rattle.proto_grammar.specs.declared.dialect.Dialect.{Dialect}
use Rattle.proto_grammar.specs.declared.dialect.Dialect.TheVariants.{All}
use Rattle.proto_grammar.specs.declared.dialect.Syntax.{Syntax}
use Rattle.proto_grammar.specs.declared.dialect.Syntax.TheVariants.{Proto2}
use Rattle.proto_grammar.specs.declared.tree.Import.{Import}
use Rattle.proto_grammar.specs.declared.tree.ImportKind.{ImportKind}
use Rattle.proto_grammar.specs.declared.tree.ImportKind.TheVariants.{Plain, Weak, Public}
use Rattle.proto_grammar.specs.declared.tree.Enum.{Enum}
use Rattle.proto_grammar.specs.declared.tree.Service.{Service}
use Rattle.proto_grammar.specs.declared.tree.FileItem.TheVariants as item
use Rattle.proto_grammar.specs.declared.tree.File.{File}
use Rattle.proto_grammar.specs.Lexeme.{Lexeme}
use Rattle.proto_grammar.specs.Terminal.{first_is, of_kind, is_word, is_plain_literal, between_quotes, not_next, is_end}
use Rattle.proto_grammar.specs.Syntax.{custom_of, proto3_in}
use Rattle.proto_grammar.specs.Tree.{BlockTree}
use Rattle.proto_steps.specs.Limits.{max_message_depth}
use Rattle.proto_grammar.specs.Grammar.Repetition.{One, Until, Adds}
use Rattle.proto_grammar.specs.Grammar.Names.{IsName}
use Rattle.proto_grammar.specs.Grammar.Options.{IsOption}
use Rattle.proto_parse.specs.Grammar.Messages.{IsEnum, IsExtendStatement, IsMessage, IsInside}
use Rattle.proto_parse.specs.Grammar.Services.{IsService}

-- The literals that are next, as many as there are, and what they spell when joined.
pub data SpellsJoined : List Lexeme → List ℕ → List Lexeme → Type 0 where
  none : {a : List Lexeme} → not_next StringLiteral a ≡ true → SpellsJoined a [] a
  some : {t : Lexeme} {rest after : List Lexeme} {text : List ℕ}
      → of_kind StringLiteral t ≡ true → SpellsJoined rest text after
      → SpellsJoined (t ∷ rest) (between_quotes t.spelling ++ text) after

-- syntax = "syntax" "=" strings ";", where the strings spell `proto3` when joined. If all sources are accepted, also
-- `proto2`, or no syntax statement at all, which is proto2. A file that begins with `edition` is none of these.
pub data IsSyntax : Dialect → List Lexeme → Syntax → List Lexeme → Type 0 where
  proto3 : {dialect : Dialect} {a b c d e : List Lexeme} {keyword equals semicolon : Span}
      → One (is_word (codes "syntax")) a keyword b → One (of_kind Equals) b equals c
      → SpellsJoined c (codes "proto3") d → One (of_kind Semicolon) d semicolon e
      → IsSyntax dialect a (proto3_in dialect) e
  proto2 : {a b c d e : List Lexeme} {keyword equals semicolon : Span}
      → One (is_word (codes "syntax")) a keyword b → One (of_kind Equals) b equals c
      → SpellsJoined c (codes "proto2") d → One (of_kind Semicolon) d semicolon e
      → IsSyntax All a Proto2 e
  no_statement : {a : List Lexeme} → first_is (is_word (codes "syntax")) a ≡ false
      → first_is (is_word (codes "edition")) a ≡ false
      → IsSyntax All a Proto2 a

-- [ "weak" | "public" ]
pub data IsImportKind : List Lexeme → ImportKind → List Lexeme → Type 0 where
  weak : {a b : List Lexeme} {word : Span} → One (is_word (codes "weak")) a word b → IsImportKind a Weak b
  public : {a b : List Lexeme} {word : Span} → One (is_word (codes "public")) a word b → IsImportKind a Public b
  neither : {a : List Lexeme} → first_is (is_word (codes "weak")) a ≡ false
      → first_is (is_word (codes "public")) a ≡ false → IsImportKind a Plain a

-- A literal of a path: it has no `\` (the profile's).
pub data IsPathLiteral : List Lexeme → Option Span → List Lexeme → Type 0 where
  path_literal : {a b : List Lexeme} {literal : Span} → One is_plain_literal a literal b
      → IsPathLiteral a (Some literal) b

-- import = "import" [ "weak" | "public" ] strings ";"
pub data IsImport : List Lexeme → Import → List Lexeme → Type 0 where
  import : {a b c d e f : List Lexeme} {keyword literal semicolon : Span} {kind : ImportKind} {literals : List Span}
      → One (is_word (codes "import")) a keyword b → IsImportKind b kind c
      → One is_plain_literal c literal d
      → Until (not_next StringLiteral) (Adds IsPathLiteral) (literal ∷ []) d literals e
      → One (of_kind Semicolon) e semicolon f
      → IsImport a (record { kind = kind; literals = literals }) f

-- package = "package" name ";"
pub data IsPackage : List Lexeme → List Span → List Lexeme → Type 0 where
  package_statement : {a b c d : List Lexeme} {keyword semicolon : Span} {components : List Span}
      → One (is_word (codes "package")) a keyword b → IsName b components c → One (of_kind Semicolon) c semicolon d
      → IsPackage a components d

-- import | package | option | message | enum | service | extend | ";", from the file so far to the file with it. There
-- is at most one package statement. At most `levels` messages and groups are inside one another.
pub data IsStatement (levels : ℕ) (syntax : Syntax) : File → List Lexeme → File → List Lexeme → Type 0 where
  empty : {file : File} {a b : List Lexeme} {semicolon : Span} → One (of_kind Semicolon) a semicolon b
      → IsStatement levels syntax file a file b
  import : {file : File} {a b : List Lexeme} {import : Import} → IsImport a import b
      → IsStatement levels syntax file a (record file { imports = file.imports ++ import ∷ [] }) b
  package_statement : {file : File} {a b : List Lexeme} {components : List Span}
      → file.package_name ≡ None → IsPackage a components b
      → IsStatement levels syntax file a (record file { package_name = Some components }) b
  option : {file : File} {a b : List Lexeme} → IsOption (custom_of syntax) a b → IsStatement levels syntax file a file b
  message : {file : File} {a b : List Lexeme} (message : BlockTree) → IsMessage (IsInside syntax levels) a message b
      → IsStatement levels syntax file a (record file { items = file.items ++ item.Block message ∷ [] }) b
  enum : {file : File} {a b : List Lexeme} {enum : Enum} → IsEnum (custom_of syntax) a enum b
      → IsStatement levels syntax file a (record file { items = file.items ++ item.Enum enum ∷ [] }) b
  service : {file : File} {a b : List Lexeme} {service : Service} → IsService (custom_of syntax) a service b
      → IsStatement levels syntax file a (record file { items = file.items ++ item.Service service ∷ [] }) b
  extend : {file : File} {a b : List Lexeme} {extend : Option BlockTree}
      → IsExtendStatement (IsInside syntax levels) syntax a extend b
      → IsStatement levels syntax file a
      (record file { items = file.items ++ option_to_list (option_map item.Block extend) }) b

abbrev pub empty_file : File
empty_file = record { package_name = None; imports = []; items = [] }

-- file = [ syntax ] { import | package | option | message | enum | service | extend | ";" }, up to the last token
pub data IsFileWithin (levels : ℕ) (dialect : Dialect) : List Lexeme → File → Type 0 where
  file : {a b c : List Lexeme} {syntax : Syntax} {file : File} → IsSyntax dialect a syntax b
      → Until is_end (IsStatement levels syntax) empty_file b file c
      → IsFileWithin levels dialect a file

abbrev pub IsFile : Dialect → List Lexeme → File → Type 0
IsFile dialect = IsFileWithin max_message_depth dialect
