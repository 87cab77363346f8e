-- What is read is in the grammar: files.
use Rattle.std.proofs.Common.{◌≡◌, ℕ, false, ◌&&◌, not, cond, Option, Some, None, is_some, ◌⊎◌, inl, inr, List}
use Rattle.std.proofs.Common.{[], ◌∷◌, refl, sym, subst, codes, bytes_eq}
use Rattle.std.specs.Prelude.{Ok, Err}
use Rattle.proto_grammar.specs.declared.fault.SyntaxFault.TheVariants.{NotProto3, Grammar}
use Rattle.proto_grammar.specs.declared.dialect.Dialect.{Dialect}
use Rattle.proto_grammar.specs.declared.dialect.Dialect.TheVariants.{Proto3, All}
use Rattle.proto_grammar.specs.declared.dialect.Syntax.{Syntax}
use Rattle.proto_grammar.specs.declared.dialect.Syntax.TheVariants.{Proto2}
use Rattle.std.proofs.lemmas.Slice.Eq.{bytes_eq-Decides}
use Rattle.proto_lex.specs.declared.span.Span.{Span}
use Rattle.proto_lex.specs.declared.token.TokenKind.TheVariants.{StringLiteral, Semicolon, Equals}
use Rattle.proto_grammar.specs.declared.tree.Import.{Import}
use Rattle.proto_grammar.specs.declared.tree.ImportKind.{ImportKind}
use Rattle.proto_grammar.specs.declared.tree.File.{File}
use Rattle.proto_steps.specs.declared.statement.FileStatement.{FileStatement}
use Rattle.proto_steps.specs.declared.statement.FileStatement.TheVariants as choice
use Rattle.proto_steps.specs.declared.statement.Version.TheVariants as version
use Rattle.proto_grammar.specs.Lexeme.{Lexeme}
use Rattle.proto_grammar.specs.Terminal.{first_is, of_kind, is_word, not_next, is_end}
use Rattle.proto_grammar.specs.Syntax.{custom_of, custom_in, proto3_in, is_all}
use Rattle.proto_steps.specs.Choice.{file_statement_of}
use Rattle.proto_steps.specs.Version.{version_of}
use Rattle.proto_grammar.specs.Grammar.Repetition.{One, Adds}
use Rattle.proto_parse.specs.Grammar.Messages.{IsInside}
use Rattle.proto_parse.specs.Grammar.Files.{empty_file, SpellsJoined, IsSyntax, IsImportKind, IsPathLiteral, IsImport}
use Rattle.proto_parse.specs.Grammar.Files.{IsPackage, IsStatement, IsFileWithin}
use Rattle.proto_parse.specs.Grammar.Files.IsSyntax.{proto3, proto2, no_statement}
use Rattle.proto_parse.specs.Grammar.Files.IsImportKind.{weak, public, neither}
use Rattle.proto_parse.specs.Grammar.Files.IsPathLiteral.{path_literal}
use Rattle.proto_parse.specs.Grammar.Files.IsImport.{import}
use Rattle.proto_parse.specs.Grammar.Files.IsPackage.{package_statement}
use Rattle.proto_parse.specs.Grammar.Files.IsStatement.{empty as statements-empty, import as statements-import}
use Rattle.proto_parse.specs.Grammar.Files.IsStatement.{package_statement as statements-package_statement}
use Rattle.proto_parse.specs.Grammar.Files.IsStatement.{option as statements-option, message as statements-message}
use Rattle.proto_parse.specs.Grammar.Files.IsStatement.{enum as statements-enum, service as statements-service}
use Rattle.proto_parse.specs.Grammar.Files.IsStatement.{extend as statements-extend}
use Rattle.proto_parse.specs.Grammar.Files.IsFileWithin.{file}
use Rattle.proto_grammar.specs.Reading.Repetition.{token_that, adding, until_at}
use Rattle.proto_grammar.specs.Reading.Names.{name_at}
use Rattle.proto_grammar.specs.Reading.Options.{option_at}
use Rattle.proto_parse.proofs.Reading.Enums.{enum_at}
use Rattle.proto_parse.proofs.Reading.Messages.{extend_statement_at, message_at, inside_at}
use Rattle.proto_parse.proofs.Reading.Services.{service_at}
use Rattle.proto_steps.specs.Version.{joined_of, behind_literals, syntax_by, version_at}
use Rattle.proto_parse.proofs.Reading.Syntax.{syntax_statement_at}
use Rattle.proto_parse.proofs.Reading.Syntax.{syntax_at}
use Rattle.proto_parse.proofs.Reading.Files.{import_kind_at, path_literal_at, path_literals_at, import_at, package_at}
use Rattle.proto_parse.proofs.Reading.Files.{only_package_at, statement_by, statement_at, statements_at, file_at}
use Rattle.proto_grammar.proofs.RepetitionStepLemmas.{same_ok, bind_ok, guard_ok, kept_ok}
use Rattle.proto_lex.proofs.ReadingTestLemmas.{chosen}
use Rattle.proto_grammar.proofs.TerminalTokenLemmas.{token_found, next_found}
use Rattle.proto_grammar.proofs.RepetitionUntilLemmas.{until_at-found, adding-found}
use Rattle.proto_grammar.proofs.Found.Names.{name_found}
use Rattle.proto_grammar.proofs.Found.Options.{option_found}
use Rattle.proto_parse.specs.Derives.{DerivesWithin}
use Rattle.proto_parse.proofs.Agreement.Files.{file_exact}
use Rattle.proto_parse.proofs.Found.Messages.{enum_found, extend_statement_found, inside_found, message_found}
use Rattle.proto_parse.proofs.Found.Messages.{service_found}
use Rattle.proto_parse.proofs.SyntaxJoinedLemmas.{joined_found}
use Rattle.std.proofs.lemmas.Option.{same_Some}
use Rattle.proto_steps.specs.Version.{past_literals}
use Rattle.std.specs.Option.{option_map_or}
use Rattle.std.proofs.lemmas.Bool.{not-true}
use Rattle.proto_grammar.proofs.TerminalTokenLemmas.{plain_found}
use Rattle.proto_grammar.proofs.RepetitionStepLemmas.{read_as}
use Rattle.proto_grammar.specs.Reading.Repetition.{plain_literal_at}
use Rattle.proto_grammar.specs.Terminal.{offset_at}
use Rattle.proto_grammar.specs.Lexeme.{Place, place_of}

-- the version that a text names
pub version_text : {P : Type 0} (text : List ℕ) → (text ≡ codes "proto3" → version_of text ≡ version.Proto3 → P)
    → (text ≡ codes "proto2" → version_of text ≡ version.Proto2 → P) → (version_of text ≡ version.Other → P) → P
version_text text three two other =
    chosen (bytes_eq text (codes "proto3")) {z = version_of text} refl
    (λ is named. three ((bytes_eq-Decides text (codes "proto3")).0 is) (sym named))
    (λ no_proto3 named. chosen (bytes_eq text (codes "proto2")) {z = version_of text} named
    (λ is named. two ((bytes_eq-Decides text (codes "proto2")).0 is) (sym named))
    (λ no_proto2 named. other (sym named)))

-- what stands behind the word `syntax` and `=`
abbrev IsVersion : Dialect → List Lexeme → Syntax → List Lexeme → Type 0
IsVersion dialect a syntax b = ((syntax ≡ proto3_in dialect) × SpellsJoined a (codes "proto3") b)
    ⊎ ((dialect ≡ All) × ((syntax ≡ Proto2) × SpellsJoined a (codes "proto2") b))

pub proto2_accepted : (dialect : Dialect) (syntax : Syntax) → cond (is_all dialect) (Some Proto2) None ≡ Some syntax
    → (dialect ≡ All) × (syntax ≡ Proto2)
proto2_accepted (Proto3 custom) syntax e = cc
proto2_accepted All syntax e = (refl, sym (same_Some Proto2 syntax e))

accepted_some : (o : Option Syntax) (tokens : Place) (x : Syntax × Place)
    → option_map_or (λ syntax. Ok (syntax, past_literals tokens)) o (Err (NotProto3 (offset_at tokens))) ≡ read_as x
    → (syntax : Syntax) × (o ≡ Some syntax) × (read_as (syntax, past_literals tokens) ≡ read_as x)
accepted_some None tokens x e = absurd (let no : Err (NotProto3 (offset_at tokens)) ≡ read_as x = e in cc)
accepted_some (Some syntax) tokens x e = (syntax, refl, e)

version_found : (dialect : Dialect) (tokens : Place) (x : Syntax × Place)
    → version_at dialect tokens ≡ Ok x → IsVersion dialect tokens.left x.0 x.1.left
unfolding version_at
version_found dialect tokens x e =
    chosen (first_is (of_kind StringLiteral) tokens.left) {z = Ok x} e
    (λ _ read.
    let v = accepted_some (syntax_by (version_of (joined_of tokens.left)) dialect) tokens x read in
    subst (λ (y : Syntax × Place). IsVersion dialect tokens.left y.0 y.1.left) (same_ok _ x v.2)
    (version_text (joined_of tokens.left)
    (λ text named.
    let given : Some (proto3_in dialect) ≡ Some v.0 =
    subst (λ n. syntax_by n dialect ≡ Some v.0) named v.1 in
    inl (
      sym (same_Some (proto3_in dialect) v.0 given),
      subst (λ t. SpellsJoined tokens.left t (behind_literals tokens.left)) text (joined_found tokens.left),
    ))
    (λ text named.
    let given = proto2_accepted dialect v.0 (subst (λ n. syntax_by n dialect ≡ Some v.0) named v.1) in
    inr (
      given.0,
      (
        given.1,
        subst (λ t. SpellsJoined tokens.left t (behind_literals tokens.left)) text (joined_found tokens.left),
      ),
    ))
    (λ named.
    let given : None ≡ Some v.0 = subst (λ n. syntax_by n dialect ≡ Some v.0) named v.1 in
    absurd cc)))
    (λ _ read. absurd (let no : Err (Grammar (offset_at tokens)) ≡ read_as x = read in cc))

syntax_statement_found : (dialect : Dialect) (tokens : Place) (x : Syntax × Place)
    → syntax_statement_at dialect tokens ≡ Ok x → IsSyntax dialect tokens.left x.0 x.1.left
unfolding syntax_statement_at
syntax_statement_found dialect tokens x e =
    let k = bind_ok (token_that (is_word (codes "syntax")) tokens) _ x e in
    let q = bind_ok (token_that (of_kind Equals) k.0.1) _ x k.2 in
    let v = bind_ok (version_at dialect q.0.1) _ x q.2 in
    let s = bind_ok (token_that (of_kind Semicolon) v.0.1) _ x v.2 in
    subst (λ (y : Syntax × Place). IsSyntax dialect tokens.left y.0 y.1.left) (same_ok _ x s.2)
    (by_version dialect v.0.0 (token_found _ _ k.1) (token_found _ _ q.1) (version_found dialect _ _ v.1)
    (token_found _ _ s.1))
  where
    by_version : (dialect : Dialect) (syntax : Syntax) {a b c d e : List Lexeme} {keyword equals semicolon : Span}
        → One (is_word (codes "syntax")) a keyword b → One (of_kind Equals) b equals c → IsVersion dialect c syntax d
        → One (of_kind Semicolon) d semicolon e → IsSyntax dialect a syntax e
    by_version dialect syntax k q (inl (is, text)) s = rw is (proto3 k q text s)
    by_version dialect syntax k q (inr (all, (is, text))) s = rw (all, is) (proto2 k q text s)

pub syntax_found : (dialect : Dialect) (tokens : Place) (x : Syntax × Place) → syntax_at dialect tokens ≡ Ok x
    → IsSyntax dialect tokens.left x.0 x.1.left
unfolding syntax_at
syntax_found dialect tokens x e =
    chosen (first_is (is_word (codes "syntax")) tokens.left) {z = Ok x} e
    (λ is read. syntax_statement_found dialect tokens x read)
    (λ no_syntax read. without dialect no_syntax read)
  where
    without : (dialect : Dialect) → first_is (is_word (codes "syntax")) tokens.left ≡ false
        → cond (is_all dialect && not (first_is (is_word (codes "edition")) tokens.left)) (Ok (Proto2, tokens))
        (Err (NotProto3 (offset_at tokens)))
        ≡ Ok x
        → IsSyntax dialect tokens.left x.0 x.1.left
    without (Proto3 custom) no_syntax read =
        absurd (let no : Err (NotProto3 (offset_at tokens)) ≡ read_as x = read in cc)
    without All no_syntax read =
        let g = guard_ok (not (first_is (is_word (codes "edition")) tokens.left)) _ _ x read in
        subst (λ (y : Syntax × Place). IsSyntax All tokens.left y.0 y.1.left) (same_ok _ x g.1)
        (no_statement no_syntax (not-true (first_is (is_word (codes "edition")) tokens.left) g.0))

-- by the dialect, custom options are refused or read past
pub syntax_custom : {dialect : Dialect} {a b : List Lexeme} {x : Syntax} → IsSyntax dialect a x b
    → custom_of x ≡ custom_in dialect
syntax_custom {dialect = Proto3 custom} (proto3 k q t s) = refl
syntax_custom {dialect = All} (proto3 k q t s) = refl
syntax_custom (proto2 k q t s) = refl
syntax_custom (no_statement p q) = refl

import_kind_found : (tokens : Place) (x : ImportKind × Place) → import_kind_at tokens ≡ Ok x
    → IsImportKind tokens.left x.0 x.1.left
unfolding import_kind_at
import_kind_found tokens x e =
    chosen (first_is (is_word (codes "weak")) tokens.left) {z = Ok x} e
    (λ is read. subst (λ (y : ImportKind × Place). IsImportKind tokens.left y.0 y.1.left) (same_ok _ x read)
    (weak (next_found tokens.left is).1))
    (λ no_weak read. chosen (first_is (is_word (codes "public")) tokens.left) {z = Ok x} read
    (λ is read. subst (λ (y : ImportKind × Place). IsImportKind tokens.left y.0 y.1.left) (same_ok _ x read)
    (public (next_found tokens.left is).1))
    (λ no_public read. subst (λ (y : ImportKind × Place). IsImportKind tokens.left y.0 y.1.left) (same_ok _ x read)
    (neither no_weak no_public)))

pub path_literal_found : (tokens : Place) (x : Option Span × Place) → path_literal_at tokens ≡ Ok x
    → IsPathLiteral tokens.left x.0 x.1.left
unfolding path_literal_at
path_literal_found tokens x e =
    let l = bind_ok (plain_literal_at tokens) _ x e in
    subst (λ (y : Option Span × Place). IsPathLiteral tokens.left y.0 y.1.left) (same_ok _ x l.2)
    (path_literal (plain_found _ _ l.1))

pub import_found : (tokens : Place) (x : Import × Place) → import_at tokens ≡ Ok x
    → IsImport tokens.left x.0 x.1.left
unfolding import_at path_literals_at
import_found tokens x e =
    let k = bind_ok (token_that (is_word (codes "import")) tokens) _ x e in
    let i = bind_ok (import_kind_at k.0.1) _ x k.2 in
    let l = bind_ok (plain_literal_at i.0.1) _ x i.2 in
    let m = bind_ok (until_at (not_next StringLiteral) (adding path_literal_at) (l.0.0 ∷ []) l.0.1) _ x l.2 in
    let s = bind_ok (token_that (of_kind Semicolon) m.0.1) _ x m.2 in
    subst (λ (y : Import × Place). IsImport tokens.left y.0 y.1.left) (same_ok _ x s.2)
    (import (token_found _ _ k.1) (import_kind_found _ _ i.1) (plain_found _ _ l.1)
    (until_at-found (not_next StringLiteral) (adding path_literal_at) (Adds IsPathLiteral)
    (adding-found path_literal_at IsPathLiteral path_literal_found) (l.0.0 ∷ []) l.0.1 m.0 m.1)
    (token_found _ _ s.1))

pub package_found : (tokens : Place) (x : List Span × Place) → package_at tokens ≡ Ok x
    → IsPackage tokens.left x.0 x.1.left
unfolding package_at
package_found tokens x e =
    let k = bind_ok (token_that (is_word (codes "package")) tokens) _ x e in
    let n = bind_ok (name_at k.0.1) _ x k.2 in
    let s = bind_ok (token_that (of_kind Semicolon) n.0.1) _ x n.2 in
    subst (λ (y : List Span × Place). IsPackage tokens.left y.0 y.1.left) (same_ok _ x s.2)
    (package_statement (token_found _ _ k.1) (name_found _ _ n.1) (token_found _ _ s.1))

-- nothing where there is none
no_some : {A : Type 0} (o : Option A) → is_some o ≡ false → o ≡ None
no_some None e = refl
no_some (Some x) e = cc

statement_by_found : (levels : ℕ) (syntax : Syntax) (f : File) (tokens : Place) (x : File × Place)
    (statement : FileStatement)
    → statement_by levels statement syntax f tokens ≡ Ok x → IsStatement levels syntax f tokens.left x.0 x.1.left
unfolding only_package_at
statement_by_found levels syntax f tokens x choice.Empty e =
    let m = bind_ok (token_that (of_kind Semicolon) tokens) _ x e in
    subst (λ (y : File × Place). IsStatement levels syntax f tokens.left y.0 y.1.left) (same_ok _ x m.2)
    (statements-empty (token_found _ _ m.1))
statement_by_found levels syntax f tokens x choice.Import e =
    let m = bind_ok (import_at tokens) _ x e in
    subst (λ (y : File × Place). IsStatement levels syntax f tokens.left y.0 y.1.left) (same_ok _ x m.2)
    (statements-import (import_found _ _ m.1))
statement_by_found levels syntax f tokens x choice.Package e =
    let k = kept_ok (is_some f.package_name) _ _ x e in
    let m = bind_ok (package_at tokens) _ x k.1 in
    subst (λ (y : File × Place). IsStatement levels syntax f tokens.left y.0 y.1.left) (same_ok _ x m.2)
    (statements-package_statement (no_some f.package_name k.0) (package_found _ _ m.1))
statement_by_found levels syntax f tokens x choice.Option e =
    let m = bind_ok (option_at (custom_of syntax) tokens) _ x e in
    subst (λ (y : File × Place). IsStatement levels syntax f tokens.left y.0 y.1.left) (same_ok _ x m.2)
    (statements-option (option_found (custom_of syntax) _ _ m.1))
statement_by_found levels syntax f tokens x choice.Message e =
    let m = bind_ok (message_at (inside_at syntax levels) tokens) _ x e in
    subst (λ (y : File × Place). IsStatement levels syntax f tokens.left y.0 y.1.left) (same_ok _ x m.2)
    (statements-message m.0.0 (message_found (inside_at syntax levels) (IsInside syntax levels)
    (inside_found syntax levels) _ _ m.1))
statement_by_found levels syntax f tokens x choice.Enum e =
    let m = bind_ok (enum_at (custom_of syntax) tokens) _ x e in
    subst (λ (y : File × Place). IsStatement levels syntax f tokens.left y.0 y.1.left) (same_ok _ x m.2)
    (statements-enum (enum_found (custom_of syntax) _ _ m.1))
statement_by_found levels syntax f tokens x choice.Service e =
    let m = bind_ok (service_at (custom_of syntax) tokens) _ x e in
    subst (λ (y : File × Place). IsStatement levels syntax f tokens.left y.0 y.1.left) (same_ok _ x m.2)
    (statements-service (service_found (custom_of syntax) _ _ m.1))
statement_by_found levels syntax f tokens x choice.Extend e =
    let m = bind_ok (extend_statement_at syntax (inside_at syntax levels) tokens) _ x e in
    subst (λ (y : File × Place). IsStatement levels syntax f tokens.left y.0 y.1.left) (same_ok _ x m.2)
    (statements-extend (extend_statement_found syntax (inside_at syntax levels)
    (IsInside syntax levels) (inside_found syntax levels) _ _ m.1))
statement_by_found levels syntax f tokens x choice.Other e =
    absurd (let no : Err (Grammar (offset_at tokens)) ≡ read_as x = e in cc)

pub statement_found : (levels : ℕ) (syntax : Syntax) (f : File) (tokens : Place) (x : File × Place)
    → statement_at levels syntax f tokens ≡ Ok x → IsStatement levels syntax f tokens.left x.0 x.1.left
unfolding statement_at
statement_found levels syntax f tokens x e =
    statement_by_found levels syntax f tokens x (file_statement_of tokens.left) e

pub relation_found : (levels : ℕ) (dialect : Dialect) (tokens : Place) (x : File × Place)
    → file_at levels dialect tokens ≡ Ok x → IsFileWithin levels dialect tokens.left x.0
unfolding file_at statements_at
relation_found levels dialect tokens x e =
    let s = bind_ok (syntax_at dialect tokens) _ x e in
    file (syntax_found dialect _ _ s.1)
    (until_at-found is_end (statement_at levels s.0.0) (IsStatement levels s.0.0)
    (statement_found levels s.0.0) empty_file s.0.1 x s.2)

-- what derives by the grammar is in the relation
pub as_relation : {levels : ℕ} {dialect : Dialect} {a : List Lexeme} {x : File} → DerivesWithin levels dialect a x
    → IsFileWithin levels dialect a x
as_relation {levels} {dialect} {a} {x} d =
    let read = file_exact 0 levels dialect a x d in
    relation_found levels dialect (place_of 0 a) (x, place_of 0 read.0) read.1
