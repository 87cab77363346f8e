-- What is in the grammar is read: names and types.
use Rattle.std.proofs.Common.{◌≡◌, true, false, Option, List, [], ◌∷◌, refl}
use Rattle.proto_lex.specs.declared.span.Span.{Span}
use Rattle.proto_lex.specs.declared.token.TokenKind.TheVariants.{Identifier, Dot}
use Rattle.proto_grammar.specs.declared.tree.TypeName.{TypeName}
use Rattle.proto_grammar.specs.declared.tree.FieldType.{FieldType}
use Rattle.proto_grammar.specs.Lexeme.{Lexeme}
use Rattle.proto_grammar.specs.Terminal.{first_is, of_kind, not_next, begins_scalar}
use Rattle.proto_grammar.specs.Grammar.Repetition.{Adds}
use Rattle.proto_grammar.specs.Grammar.Names.{IsDotName, IsName, IsTypeName, IsType}
use Rattle.proto_grammar.specs.Grammar.Names.IsDotName.{dot_name}
use Rattle.proto_grammar.specs.Grammar.Names.IsName.{name}
use Rattle.proto_grammar.specs.Grammar.Names.IsTypeName.{rooted, plain}
use Rattle.proto_grammar.specs.Grammar.Names.IsType.{scalar, named}
use Rattle.proto_grammar.specs.Reading.Repetition.{adding}
use Rattle.proto_grammar.specs.Reading.Names.{dot_name_at, dot_names_at, name_at, pass_dot_name_at, pass_dot_names_at}
use Rattle.proto_grammar.specs.Reading.Names.{pass_name_at, leading_dot_at, type_name_at, pass_type_name_at}
use Rattle.proto_grammar.specs.Reading.Names.{named_type_at, type_at, pass_type_at}
use Rattle.proto_grammar.proofs.TerminalTokenLemmas.{token_exact, one_next, next_other_kind}
use Rattle.proto_grammar.proofs.RepetitionUntilLemmas.{until_at-exact, adding-exact, passed-exact}
use Rattle.proto_grammar.proofs.RepetitionFallLemmas.{dot_names_fall, pass_dot_names_fall}
use Rattle.std.proofs.Common.{Ok, ℕ}
use Rattle.proto_grammar.specs.Lexeme.{place_of}

module _ (end : ℕ) where
  dot_name_exact : (a b : List Lexeme) (x : Option Span) → IsDotName a x b
      → dot_name_at (place_of end a) ≡ Ok (x, place_of end b)
  unfolding dot_name_at
  dot_name_exact a b x (dot_name d n) = rw (token_exact end d, token_exact end n) refl

  pub name_exact : {a b : List Lexeme} {x : List Span} → IsName a x b
      → name_at (place_of end a) ≡ Ok (x, place_of end b)
  unfolding name_at dot_names_at
  name_exact (name t u) =
      rw (token_exact end t) (until_at-exact end (not_next Dot) (adding dot_name_at) (Adds IsDotName) dot_names_fall
      (adding-exact end dot_name_at IsDotName dot_name_exact) u)

  pub pass_name_exact : {a b : List Lexeme} {x : List Span} → IsName a x b
      → pass_name_at (place_of end a) ≡ Ok (tt, place_of end b)
  unfolding pass_name_at pass_dot_names_at pass_dot_name_at
  pass_name_exact (name t u) =
      rw (token_exact end t) (passed-exact end (not_next Dot) dot_name_at IsDotName pass_dot_names_fall dot_name_exact
      u)

  pub name_next : {a b : List Lexeme} {x : List Span} → IsName a x b → first_is (of_kind Identifier) a ≡ true
  name_next (name t u) = one_next t

  pub type_name_exact : {a b : List Lexeme} {x : TypeName} → IsTypeName a x b
      → type_name_at (place_of end a) ≡ Ok (x, place_of end b)
  unfolding type_name_at leading_dot_at
  type_name_exact (rooted d n) = rw (one_next d, token_exact end d, name_exact n) refl
  type_name_exact (plain {a} n) = rw (next_other_kind Identifier Dot a refl (name_next n), name_exact n) refl

  pub pass_type_name_exact : {a b : List Lexeme} {x : TypeName} → IsTypeName a x b
      → pass_type_name_at (place_of end a) ≡ Ok (tt, place_of end b)
  unfolding pass_type_name_at leading_dot_at
  pass_type_name_exact (rooted d n) = rw (one_next d, token_exact end d, pass_name_exact n) refl
  pass_type_name_exact (plain {a} n) = rw (next_other_kind Identifier Dot a refl (name_next n), pass_name_exact n) refl

  pub named_type_exact : {a b : List Lexeme} {x : TypeName} → begins_scalar a ≡ false → IsTypeName a x b
      → named_type_at (place_of end a) ≡ Ok (x, place_of end b)
  unfolding named_type_at
  named_type_exact not n = rw (not, type_name_exact n) refl

  pub type_exact : {a b : List Lexeme} {x : FieldType} → IsType a x b
      → type_at (place_of end a) ≡ Ok (x, place_of end b)
  unfolding type_at
  type_exact (scalar is w) = rw (is, token_exact end w) refl
  type_exact (named not n) = rw (not, type_name_exact n) refl

  pub pass_type_exact : {a b : List Lexeme} {x : FieldType} → IsType a x b
      → pass_type_at (place_of end a) ≡ Ok (tt, place_of end b)
  unfolding pass_type_at
  pass_type_exact (scalar is w) = rw (is, token_exact end w) refl
  pass_type_exact (named not n) = rw (not, pass_type_name_exact n) refl
