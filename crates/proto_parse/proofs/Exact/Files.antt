-- What is in the grammar is read: files.
use Rattle.std.proofs.Common.{◌≡◌, ℕ, true, Option, Some, List, refl, codes}
use Rattle.std.specs.Prelude.{Ok}
use Rattle.proto_lex.specs.declared.span.Span.{Span}
use Rattle.proto_lex.specs.declared.token.TokenKind.TheVariants.{StringLiteral}
use Rattle.proto_grammar.specs.declared.dialect.Dialect.{Dialect}
use Rattle.proto_grammar.specs.declared.dialect.Dialect.TheVariants.{All}
use Rattle.proto_grammar.specs.declared.dialect.Syntax.{Syntax}
use Rattle.proto_grammar.specs.declared.dialect.Syntax.TheVariants.{Proto2}
use Rattle.proto_grammar.specs.declared.tree.Import.{Import}
use Rattle.proto_grammar.specs.declared.tree.ImportKind.{ImportKind}
use Rattle.proto_steps.specs.declared.statement.Version.{Version}
use Rattle.proto_steps.specs.declared.statement.Version.TheVariants as version
use Rattle.proto_grammar.specs.Lexeme.{Lexeme}
use Rattle.proto_grammar.specs.Terminal.{not_next}
use Rattle.proto_grammar.specs.Syntax.{proto3_in}
use Rattle.proto_steps.specs.Version.{version_of}
use Rattle.proto_grammar.specs.Grammar.Repetition.{Adds}
use Rattle.proto_parse.specs.Grammar.Files.{SpellsJoined, IsSyntax, IsImportKind, IsPathLiteral, IsImport, IsPackage}
use Rattle.proto_parse.specs.Grammar.Files.SpellsJoined.{none, some}
use Rattle.proto_parse.specs.Grammar.Files.IsSyntax.{proto3, proto2, no_statement}
use Rattle.proto_parse.specs.Grammar.Files.IsImportKind.{weak, public, neither}
use Rattle.proto_parse.specs.Grammar.Files.IsPathLiteral.{path_literal}
use Rattle.proto_parse.specs.Grammar.Files.IsImport.{import}
use Rattle.proto_parse.specs.Grammar.Files.IsPackage.{package_statement}
use Rattle.proto_grammar.specs.Reading.Repetition.{adding}
use Rattle.proto_steps.specs.Version.{syntax_by, version_at}
use Rattle.proto_parse.proofs.Reading.Syntax.{syntax_statement_at, syntax_at}
use Rattle.proto_parse.proofs.Reading.Files.{import_kind_at, path_literal_at, path_literals_at, import_at, package_at}
use Rattle.proto_grammar.proofs.TerminalTokenLemmas.{token_exact, one_next, one_others, next_other_word}
use Rattle.proto_grammar.proofs.RepetitionUntilLemmas.{until_at-exact, adding-exact}
use Rattle.proto_parse.proofs.SyntaxJoinedLemmas.{joined_exact}
use Rattle.proto_parse.proofs.ReadingFallLemmas.{path_literals_fall}
use Rattle.proto_grammar.proofs.Exact.Names.{name_exact}
use Rattle.std.proofs.Common.{None}
use Rattle.proto_grammar.proofs.TerminalTokenLemmas.{plain_exact}
use Rattle.proto_grammar.specs.Terminal.{first_is, of_kind}
use Rattle.proto_grammar.specs.Lexeme.{place_of}

module _ (end : ℕ) where
  -- a text that names a version has literals
  literal_first : (dialect : Dialect) (syntax : Syntax) {a b : List Lexeme} {text : List ℕ}
      → syntax_by (version_of text) dialect ≡ Some syntax → SpellsJoined a text b
      → first_is (of_kind StringLiteral) a ≡ true
  literal_first dialect syntax accepted (none past) = absurd (let no : None ≡ Some syntax = accepted in cc)
  literal_first dialect syntax accepted (some is behind) = is

  version_exact : (dialect : Dialect) (syntax : Syntax) (version : Version) {a b : List Lexeme} {text : List ℕ}
      → version_of text ≡ version → syntax_by version dialect ≡ Some syntax → SpellsJoined a text b
      → version_at dialect (place_of end a) ≡ Ok (syntax, place_of end b)
  unfolding version_at
  version_exact dialect syntax version named accepted spelled =
      let joined = joined_exact spelled in
      let first = literal_first dialect syntax (rw named accepted) spelled in
      rw (first, joined.0, joined.1, named, accepted) refl

  pub syntax_exact : {dialect : Dialect} {a b : List Lexeme} {x : Syntax} → IsSyntax dialect a x b
      → syntax_at dialect (place_of end a) ≡ Ok (x, place_of end b)
  unfolding syntax_at syntax_statement_at
  syntax_exact {dialect = dialect} (proto3 k q t s) =
      rw (
        one_next k,
        token_exact end k,
        token_exact end q,
        version_exact dialect (proto3_in dialect) version.Proto3 refl refl t,
        token_exact end s,
      ) refl
  syntax_exact (proto2 k q t s) =
      rw (
        one_next k,
        token_exact end k,
        token_exact end q,
        version_exact All Proto2 version.Proto2 refl refl t,
        token_exact end s,
      ) refl
  syntax_exact (no_statement p q) = rw (p, q) refl

  pub import_kind_exact : {a b : List Lexeme} {x : ImportKind} → IsImportKind a x b
      → import_kind_at (place_of end a) ≡ Ok (x, place_of end b)
  unfolding import_kind_at
  import_kind_exact (weak w) = rw (one_next w, one_others w) refl
  import_kind_exact (public {a} w) =
      rw (next_other_word (codes "public") (codes "weak") a refl (one_next w), one_next w, one_others w) refl
  import_kind_exact (neither p q) = rw (p, q) refl

  path_literal_exact : (a b : List Lexeme) (x : Option Span) → IsPathLiteral a x b
      → path_literal_at (place_of end a) ≡ Ok (x, place_of end b)
  unfolding path_literal_at
  path_literal_exact a b x (path_literal l) = rw (plain_exact end l) refl

  pub import_exact : {a b : List Lexeme} {x : Import} → IsImport a x b → import_at (place_of end a) ≡ Ok
      (x, place_of end b)
  unfolding import_at path_literals_at
  import_exact (import k i l u s) =
      rw (
        token_exact end k,
        import_kind_exact i,
        plain_exact end l,
        until_at-exact end (not_next StringLiteral) (adding path_literal_at) (Adds IsPathLiteral) path_literals_fall
            (adding-exact end path_literal_at IsPathLiteral path_literal_exact) u,
        token_exact end s,
      ) refl

  pub package_exact : {a b : List Lexeme} {x : List Span} → IsPackage a x b
      → package_at (place_of end a) ≡ Ok (x, place_of end b)
  unfolding package_at
  package_exact (package_statement k n s) = rw (token_exact end k, name_exact end n, token_exact end s) refl
