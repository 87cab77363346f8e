-- Files as data are read as the functions on places read them.
use Rattle.std.proofs.Common.{◌≡◌, ℕ, Bool, true, false, cond, ◌&&◌, not, Result, Ok, Err, Option, Some, is_some}
use Rattle.std.proofs.Common.{option_map, option_to_list, List, [], ◌∷◌, ◌++◌, refl, sym, ap, ◌∙◌, inl, codes}
use Rattle.proto_lex.specs.declared.span.Span.{Span}
use Rattle.proto_lex.specs.declared.token.TokenKind.TheVariants.{StringLiteral, Semicolon, Equals}
use Rattle.proto_grammar.specs.declared.dialect.Dialect.{Dialect}
use Rattle.proto_grammar.specs.declared.dialect.Dialect.TheVariants as dialects
use Rattle.proto_grammar.specs.declared.dialect.Syntax.{Syntax}
use Rattle.proto_grammar.specs.declared.dialect.Syntax.TheVariants.{Proto2}
use Rattle.proto_grammar.specs.declared.fault.SyntaxFault.{SyntaxFault}
use Rattle.proto_grammar.specs.declared.fault.SyntaxFault.TheVariants.{NotProto3, TwoPackages}
use Rattle.proto_grammar.specs.declared.tree.Enum.{Enum}
use Rattle.proto_grammar.specs.declared.tree.Service.{Service}
use Rattle.proto_grammar.specs.declared.tree.Import.{Import}
use Rattle.proto_grammar.specs.declared.tree.ImportKind.{ImportKind}
use Rattle.proto_grammar.specs.declared.tree.ImportKind.TheVariants.{Plain, Weak, Public}
use Rattle.proto_grammar.specs.declared.tree.FileItem.TheVariants as item
use Rattle.proto_grammar.specs.declared.tree.File.{File}
use Rattle.proto_grammar.specs.Lexeme.{Lexeme, Place, place_of}
use Rattle.proto_grammar.specs.Terminal.{first_is, of_kind, is_word, not_next, is_end, offset_at, behind}
use Rattle.proto_grammar.specs.Syntax.{custom_of, is_all}
use Rattle.proto_grammar.specs.Tree.{BlockTree}
use Rattle.proto_grammar.specs.Reading.Repetition.{and_then, token_that, adding as adding_at}
use Rattle.proto_parse.specs.Grammar.Files.{empty_file}
use Rattle.proto_parse.proofs.Reading.Messages.{inside_at}
use Rattle.proto_parse.proofs.Reading.Syntax.{syntax_statement_at, syntax_at}
use Rattle.proto_parse.proofs.Reading.Files.{import_kind_at, path_literal_at, path_literals_at, import_at, package_at}
use Rattle.proto_parse.proofs.Reading.Files.{only_package_at, statement_by, statement_at, statements_at, file_at}
use Rattle.proto_steps.specs.declared.statement.FileStatement.{FileStatement}
use Rattle.proto_steps.specs.declared.statement.FileStatement.TheVariants as choice
use Rattle.proto_parse.specs.Derives.{DerivesWithin}
use Rattle.proto_steps.specs.Step.{Done, Never, adding, when, run, ◌>>=◌}
use Rattle.proto_steps.specs.Terminals.{is_token}
use Rattle.proto_steps.specs.Choice.{file_statement_of, chosen_statement}
use Rattle.proto_steps.specs.Grammar.Definitions.{inside, import_kind, kept_literal, path_literals, import}
use Rattle.proto_steps.specs.Grammar.Definitions.{package_statement, only_package, file_statement, file_statements}
use Rattle.proto_steps.specs.Grammar.Definitions.{syntax_statement, syntax, file}
use Rattle.proto_steps.proofs.AgreeLemmas.{bind_agree, turns_agree, twice, name_agrees, option_statement_agrees}
use Rattle.proto_steps.proofs.AgreeFieldLemmas.{next_taken}
use Rattle.proto_steps.proofs.FileLemmas.{path_literal_agrees, kept_literal_moves, statement_moves, statement_chosen}
use Rattle.proto_steps.proofs.JoinedLemmas.{version_agrees}
use Rattle.proto_steps.proofs.StepLaws.{read}
use Rattle.proto_parse.proofs.Agreement.Enums.{enum_agrees}
use Rattle.proto_parse.proofs.Agreement.Services.{service_agrees}
use Rattle.proto_parse.proofs.Agreement.Messages.{inside_agrees, message_agrees, extend_statement_agrees}

-- up to and with the `;`
abbrev closed : {A : Type 0} → A → Span × Place → Result (A × Place) SyntaxFault
closed v x = Ok (v, x.1)

abbrev then_semicolon : {A : Type 0} → A × Place → Result (A × Place) SyntaxFault
then_semicolon x = and_then (token_that (of_kind Semicolon) x.1) (closed x.0)

-- ---- imports and packages

pub import_kind_agrees : (place : Place) → run import_kind place ≡ import_kind_at place
unfolding run import_kind import_kind_at
import_kind_agrees place =
    next_taken (is_word (codes "weak")) place (λ p. Ok (Weak, p))
    (cond (first_is (is_word (codes "public")) place.left)
    (and_then (token_that (is_word (codes "public")) place) (closed Public)) (Ok (Plain, place)))
    ∙ ap (λ o. cond (first_is (is_word (codes "weak")) place.left) (Ok (Weak, behind place)) o)
    (next_taken (is_word (codes "public")) place (λ p. Ok (Public, p)) (Ok (Plain, place)))

abbrev kept : Span × Place → Result (Option Span × Place) SyntaxFault
kept x = Ok (Some x.0, x.1)

pub kept_literal_agrees : (place : Place) → run kept_literal place ≡ path_literal_at place
unfolding run path_literal_at
kept_literal_agrees place = ap (λ o. and_then o kept) (path_literal_agrees place)

abbrev behind_them : List Span → Option Span × Place → Result (List Span × Place) SyntaxFault
behind_them spans x = Ok (spans ++ option_to_list x.0, x.1)

literal_added : (spans : List Span) (place : Place)
    → run (adding kept_literal spans) place ≡ adding_at path_literal_at spans place
unfolding run
literal_added spans place = ap (λ o. and_then o (behind_them spans)) (kept_literal_agrees place)

path_literals_agree : (spans : List Span) (place : Place) → run (path_literals spans) place ≡ path_literals_at spans
    place
unfolding path_literals path_literals_at
path_literals_agree spans place =
    turns_agree (of_kind StringLiteral) (not_next StringLiteral) (adding kept_literal) (adding_at path_literal_at)
    (λ a. twice (first_is (of_kind StringLiteral) a)) literal_added (λ s. inl kept_literal_moves) spans place

abbrev import_of : ImportKind → List Span × Place → Result (Import × Place) SyntaxFault
import_of kind x =
    and_then (token_that (of_kind Semicolon) x.1) (closed (record { kind = kind; literals = x.0 }))

pub import_agrees : (place : Place) → run import place ≡ import_at place
unfolding run import import_at
import_agrees place =
    bind_agree {o = token_that (is_word (codes "import")) place} refl
    (λ (keyword : Span × Place).
    bind_agree (import_kind_agrees keyword.1)
    (λ (kind : ImportKind × Place).
    bind_agree (path_literal_agrees kind.1)
    (λ (literal : Span × Place).
    ap (λ o. and_then o (import_of kind.0)) (path_literals_agree (literal.0 ∷ []) literal.1))))

pub package_agrees : (place : Place) → run package_statement place ≡ package_at place
unfolding run package_statement package_at
package_agrees place =
    bind_agree {o = token_that (is_word (codes "package")) place} refl
    (λ (keyword : Span × Place). ap (λ o. and_then o then_semicolon) (name_agrees keyword.1))

abbrev packaged : File → List Span × Place → Result (File × Place) SyntaxFault
packaged file x = Ok (record file { package_name = Some x.0 }, x.1)

only_package_by : (file : File) (b : Bool) (place : Place)
    → run (when b (Never TwoPackages) (package_statement >>= λ x. Done (record file { package_name = Some x }))) place
    ≡ cond b (Err (TwoPackages (offset_at place))) (and_then (package_at place) (packaged file))
unfolding run
only_package_by file true place = refl
only_package_by file false place = ap (λ o. and_then o (packaged file)) (package_agrees place)

only_package_agrees : (file : File) (place : Place) → run (only_package file) place ≡ only_package_at file place
unfolding only_package only_package_at
only_package_agrees file place = only_package_by file (is_some file.package_name) place

-- ---- statements

module _ (levels : ℕ) (syntax : Syntax) (file : File) where
  abbrev imported : Import × Place → Result (File × Place) SyntaxFault
  imported x = Ok (record file { imports = file.imports ++ x.0 ∷ [] }, x.1)

  abbrev same_file : Unit {0} × Place → Result (File × Place) SyntaxFault
  same_file x = Ok (file, x.1)

  abbrev with_block : BlockTree × Place → Result (File × Place) SyntaxFault
  with_block x = Ok (record file { items = file.items ++ item.Block x.0 ∷ [] }, x.1)

  abbrev with_enum : Enum × Place → Result (File × Place) SyntaxFault
  with_enum x = Ok (record file { items = file.items ++ item.Enum x.0 ∷ [] }, x.1)

  abbrev with_service : Service × Place → Result (File × Place) SyntaxFault
  with_service x = Ok (record file { items = file.items ++ item.Service x.0 ∷ [] }, x.1)

  abbrev with_extend : Option BlockTree × Place → Result (File × Place) SyntaxFault
  with_extend x = Ok (record file { items = file.items ++ option_to_list (option_map item.Block x.0) }, x.1)

  chosen_agrees : (statement : FileStatement) (place : Place)
      → run (chosen_statement levels statement syntax file) place ≡ statement_by levels statement syntax file place
  unfolding run
  chosen_agrees choice.Empty place = refl
  chosen_agrees choice.Import place = ap (λ o. and_then o imported) (import_agrees place)
  chosen_agrees choice.Package place = only_package_agrees file place
  chosen_agrees choice.Option place = ap (λ o. and_then o same_file) (option_statement_agrees (custom_of syntax) place)
  chosen_agrees choice.Message place =
      ap (λ o. and_then o with_block)
      (message_agrees syntax (inside syntax levels) (inside_at syntax levels) (inside_agrees syntax levels) place)
  chosen_agrees choice.Enum place = ap (λ o. and_then o with_enum) (enum_agrees (custom_of syntax) place)
  chosen_agrees choice.Service place = ap (λ o. and_then o with_service) (service_agrees (custom_of syntax) place)
  chosen_agrees choice.Extend place =
      ap (λ o. and_then o with_extend)
      (extend_statement_agrees syntax (inside syntax levels) (inside_at syntax levels) (inside_agrees syntax levels)
      place)
  chosen_agrees choice.Other place = refl

  pub statement_agrees : (place : Place)
      → run (file_statement levels syntax file) place ≡ statement_at levels syntax file place
  unfolding statement_at
  statement_agrees place =
      statement_chosen levels syntax file place ∙ chosen_agrees (file_statement_of place.left) place

token_or_end : (a : List Lexeme) → first_is is_token a ≡ not (is_end a)
token_or_end [] = refl
token_or_end (t ∷ rest) = refl

statements_agree : (levels : ℕ) (syntax : Syntax) (place : Place)
    → run (file_statements levels syntax) place ≡ statements_at levels syntax place
unfolding file_statements statements_at
statements_agree levels syntax place =
    turns_agree is_token is_end (file_statement levels syntax) (statement_at levels syntax) token_or_end
    (λ file at. statement_agrees levels syntax file at) (statement_moves levels syntax) empty_file place

-- ---- syntax statements

syntax_statement_agrees : (dialect : Dialect) (place : Place)
    → run (syntax_statement dialect) place ≡ syntax_statement_at dialect place
unfolding run syntax_statement syntax_statement_at
syntax_statement_agrees dialect place =
    bind_agree {o = token_that (is_word (codes "syntax")) place} refl
    (λ (keyword : Span × Place).
    bind_agree {o = token_that (of_kind Equals) keyword.1} refl
    (λ (equals : Span × Place). ap (λ o. and_then o then_semicolon) (version_agrees dialect equals.1)))

no_statement_by : (dialect : Dialect) (place : Place) (edition : Bool)
    → cond edition (Err (NotProto3 (offset_at place)))
    (run (when (is_all dialect) (Done Proto2) (Never NotProto3)) place)
    ≡ cond (is_all dialect && not edition) (Ok (Proto2, place)) (Err (NotProto3 (offset_at place)))
unfolding run
no_statement_by (dialects.Proto3 custom) place true = refl
no_statement_by (dialects.Proto3 custom) place false = refl
no_statement_by dialects.All place true = refl
no_statement_by dialects.All place false = refl

pub syntax_agrees : (dialect : Dialect) (place : Place) → run (syntax dialect) place ≡ syntax_at dialect place
unfolding run syntax syntax_at
syntax_agrees dialect place =
    ap (λ o. cond (first_is (is_word (codes "syntax")) place.left) o
    (cond (first_is (is_word (codes "edition")) place.left) (Err (NotProto3 (offset_at place)))
    (run (when (is_all dialect) (Done Proto2) (Never NotProto3)) place))) (syntax_statement_agrees dialect place)
    ∙ ap (λ o. cond (first_is (is_word (codes "syntax")) place.left) (syntax_statement_at dialect place) o)
    (no_statement_by dialect place (first_is (is_word (codes "edition")) place.left))

-- ---- files

pub file_agrees : (levels : ℕ) (dialect : Dialect) (place : Place)
    → run (file levels dialect) place ≡ file_at levels dialect place
unfolding run file file_at
file_agrees levels dialect place =
    bind_agree (syntax_agrees dialect place) (λ (x : Syntax × Place). statements_agree levels x.0 x.1)

-- what derives is read
pub file_exact : (end levels : ℕ) (dialect : Dialect) (a : List Lexeme) (x : File)
    → DerivesWithin levels dialect a x
    → (b : List Lexeme) × (file_at levels dialect (place_of end a) ≡ Ok (x, place_of end b))
file_exact end levels dialect a x d =
    ([], sym (file_agrees levels dialect (place_of end a)) ∙ read (file levels dialect) end a [] x d)
