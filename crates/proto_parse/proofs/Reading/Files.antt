-- How files are read, on places.
use Rattle.std.specs.Prelude.{ℕ, cond, Ok, Err, Some, is_some, option_map, option_to_list, List, [], ◌∷◌, ◌++◌, codes}
use Rattle.proto_lex.specs.declared.span.Span.{Span}
use Rattle.proto_lex.specs.declared.token.TokenKind.TheVariants.{StringLiteral, Semicolon}
use Rattle.proto_grammar.specs.declared.dialect.Dialect.{Dialect}
use Rattle.proto_grammar.specs.declared.dialect.Syntax.{Syntax}
use Rattle.proto_grammar.specs.declared.tree.Import.{Import}
use Rattle.proto_grammar.specs.declared.tree.ImportKind.{ImportKind}
use Rattle.proto_grammar.specs.declared.tree.ImportKind.TheVariants.{Plain, Weak, Public}
use Rattle.proto_grammar.specs.declared.tree.FileItem.TheVariants as item
use Rattle.proto_grammar.specs.declared.tree.File.{File}
use Rattle.proto_steps.specs.declared.statement.FileStatement.{FileStatement}
use Rattle.proto_steps.specs.declared.statement.FileStatement.TheVariants as chosen
use Rattle.proto_grammar.specs.Terminal.{behind, first_is, of_kind, is_word, not_next, is_end, offset_at}
use Rattle.proto_grammar.specs.Syntax.{custom_of}
use Rattle.proto_steps.specs.Choice.{file_statement_of}
use Rattle.proto_parse.specs.Grammar.Files.{empty_file}
use Rattle.proto_grammar.specs.Reading.Repetition.{◌>>=◌, Read, misplaced, token_that, plain_literal_at, until_at}
use Rattle.proto_grammar.specs.Reading.Repetition.{adding}
use Rattle.proto_grammar.specs.Reading.Names.{name_at}
use Rattle.proto_grammar.specs.Reading.Options.{option_at}
use Rattle.proto_parse.proofs.Reading.Enums.{enum_at}
use Rattle.proto_parse.proofs.Reading.Messages.{extend_statement_at, message_at, inside_at}
use Rattle.proto_parse.proofs.Reading.Services.{service_at}
use Rattle.proto_parse.proofs.Reading.Syntax.{syntax_at}
use Rattle.proto_grammar.specs.declared.fault.SyntaxFault.TheVariants.{TwoPackages}
use Rattle.std.specs.Prelude.{Option}

unfoldable pub import_kind_at : Read ImportKind
import_kind_at tokens =
    cond (first_is (is_word (codes "weak")) tokens.left) (Ok (Weak, behind tokens))
    (cond (first_is (is_word (codes "public")) tokens.left) (Ok (Public, behind tokens))
    (Ok (Plain, tokens)))

unfoldable pub path_literal_at : Read (Option Span)
path_literal_at tokens = plain_literal_at tokens >>= λ literal. Ok (Some literal.0, literal.1)

unfoldable pub path_literals_at : List Span → Read (List Span)
path_literals_at literals tokens = until_at (not_next StringLiteral) (adding path_literal_at) literals tokens

unfoldable pub import_at : Read Import
import_at tokens = do
  keyword ← token_that (is_word (codes "import")) tokens
  kind ← import_kind_at keyword.1
  literal ← plain_literal_at kind.1
  literals ← path_literals_at (literal.0 ∷ []) literal.1
  semicolon ← token_that (of_kind Semicolon) literals.1
  Ok (record { kind = kind.0; literals = literals.0 }, semicolon.1)

unfoldable pub package_at : Read (List Span)
package_at tokens = do
  keyword ← token_that (is_word (codes "package")) tokens
  components ← name_at keyword.1
  semicolon ← token_that (of_kind Semicolon) components.1
  Ok (components.0, semicolon.1)

unfoldable pub only_package_at : File → Read File
only_package_at file tokens =
    cond (is_some file.package_name) (Err (TwoPackages (offset_at tokens)))
    (package_at tokens >>= λ x. Ok (record file { package_name = Some x.0 }, x.1))

abbrev pub statement_by : (levels : ℕ) → FileStatement → Syntax → File → Read File
statement_by levels chosen.Empty syntax file tokens = token_that (of_kind Semicolon) tokens >>= λ x. Ok (file, x.1)
statement_by levels chosen.Import syntax file tokens =
    import_at tokens >>= λ x. Ok (record file { imports = file.imports ++ x.0 ∷ [] }, x.1)
statement_by levels chosen.Package syntax file tokens = only_package_at file tokens
statement_by levels chosen.Option syntax file tokens = option_at (custom_of syntax) tokens >>= λ x. Ok (file, x.1)
statement_by levels chosen.Message syntax file tokens =
    message_at (inside_at syntax levels) tokens >>= λ x. Ok
    (record file { items = file.items ++ item.Block x.0 ∷ [] }, x.1)
statement_by levels chosen.Enum syntax file tokens =
    enum_at (custom_of syntax) tokens >>= λ x. Ok (record file { items = file.items ++ item.Enum x.0 ∷ [] }, x.1)
statement_by levels chosen.Service syntax file tokens =
    service_at (custom_of syntax) tokens >>= λ x. Ok (record file { items = file.items ++ item.Service x.0 ∷ [] }, x.1)
statement_by levels chosen.Extend syntax file tokens =
    extend_statement_at syntax (inside_at syntax levels) tokens >>= λ x. Ok
    (record file { items = file.items ++ option_to_list (option_map item.Block x.0) }, x.1)
statement_by levels chosen.Other syntax file tokens = misplaced tokens

unfoldable pub statement_at : (levels : ℕ) → Syntax → File → Read File
statement_at levels syntax file tokens = statement_by levels (file_statement_of tokens.left) syntax file tokens

unfoldable pub statements_at : (levels : ℕ) → Syntax → Read File
statements_at levels syntax tokens = until_at is_end (statement_at levels syntax) empty_file tokens

unfoldable pub file_at : (levels : ℕ) → Dialect → Read File
file_at levels dialect tokens = syntax_at dialect tokens >>= λ syntax. statements_at levels syntax.0 syntax.1
