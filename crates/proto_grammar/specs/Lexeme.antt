-- Tokens with their spellings: the terminals of the grammar.
use Rattle.std.specs.Prelude.{ℕ, Bool, false, List, [], ◌∷◌, length}
use denote.Enum.Bare.{sameb}
use Rattle.proto_lex.specs.Lexed.{part_of}
use Rattle.proto_lex.specs.declared.span.Span.{Span}
use Rattle.proto_lex.specs.declared.token.Token.{Token}
use Rattle.proto_lex.specs.contracts.token.TokenKind.{the_type}
use Rattle.proto_lex.specs.declared.token.TokenKind.{TokenKind}
use Rattle.proto_lex.specs.declared.token.TokenKind.TheVariants.{Dot}

-- A token, with the bytes that spell it, and whether a `.` is the next token.
pub record Lexeme : Type 0 where
  pub kind : TokenKind
  pub spelling : List ℕ
  pub span : Span
  pub dotted : Bool

-- Whether a `.` is the first of the tokens.
abbrev pub is_dot_first : List Token → Bool
is_dot_first [] = false
is_dot_first (token ∷ rest) = sameb the_type token.kind Dot

-- The tokens of a text, each with its spelling.
abbrev pub lexemes_of : List ℕ → List Token → List Lexeme
lexemes_of text [] = []
lexemes_of text (token ∷ rest) =
    record {
      kind = token.kind;
      spelling = part_of text token.span;
      span = token.span;
      dotted = is_dot_first rest;
    }
    ∷ lexemes_of text rest

-- A place among the tokens of a text: the tokens that are left, and where the text ends.
pub record Place : Type 0 where
  pub left : List Lexeme
  pub end : ℕ

-- A place, by where the text ends and the tokens that are left.
abbrev pub place_of : ℕ → List Lexeme → Place
place_of end left = record { left = left; end = end }

-- The place before the first token.
abbrev pub start_of : List ℕ → List Token → Place
start_of text tokens = place_of (length text) (lexemes_of text tokens)
