-- The tokens from a place on, by the index of the next one.
use Rattle.std.proofs.Common.{◌≡◌, ◌∙◌, refl, ℕ, zero, suc, ◌+◌, ◌≤◌, ◌-◌, Bool, false, ◌&&◌, cond}
use Rattle.std.proofs.Common.{List, [], ◌∷◌, drop, length, slice_get, bytes_eq, Option, Some, None}
use Rattle.std.specs.Option.{option_map_or}
use Rattle.proto_lex.specs.Lexed.{part_of}
use Rattle.proto_lex.specs.declared.span.Span.{Span}
use Rattle.proto_lex.specs.declared.token.Token.{Token}
use Rattle.proto_lex.specs.declared.token.TokenKind.{TokenKind}
use Rattle.proto_lex.specs.declared.token.TokenKind.TheVariants.{Identifier}
use Rattle.proto_grammar.specs.Lexeme.{Lexeme, lexemes_of}
use Rattle.proto_grammar.specs.Terminal.{first, others, first_is, of_kind, is_word, is_kind}
use Rattle.proto_grammar.proofs.TerminalPlaceLemmas.{others_drop, others_past, length_left}

-- the tokens behind the place
pub others_after : (tokens : List Lexeme) (place : ℕ) → others (drop place tokens) ≡ drop (place + 1) tokens
others_after = others_drop

-- behind the last token there is none
pub others_at_end : (text : List ℕ) (tokens : List Token) (place : ℕ) → length tokens ≤ place
    → others (drop place (lexemes_of text tokens)) ≡ drop place (lexemes_of text tokens)
others_at_end = others_past

-- as many are left as there are tokens from the place on
pub length_after : (text : List ℕ) (tokens : List Token) (place : ℕ)
    → length (drop place (lexemes_of text tokens)) ≡ length tokens - place
length_after = length_left

-- what a token and its lexeme have in common, at a place
common : {A : Type 0} (at : TokenKind → List ℕ → Span → A) (otherwise : A) (text : List ℕ) (tokens : List Token)
    (place : ℕ)
    → option_map_or (λ (t : Token). at t.kind (part_of text t.span) t.span) (slice_get tokens place) otherwise
    ≡ option_map_or (λ (t : Lexeme). at t.kind t.spelling t.span) (first (drop place (lexemes_of text tokens)))
    otherwise
common at otherwise text [] zero = refl
common at otherwise text [] (suc place) = refl
common at otherwise text (t ∷ rest) zero = refl
common at otherwise text (t ∷ rest) (suc place) = common at otherwise text rest place

-- whether a token of the kind is at the place
pub kind_at : (text : List ℕ) (tokens : List Token) (place : ℕ) (kind : TokenKind) (is : Bool)
    → is ≡ option_map_or (λ (t : Token). is_kind kind t.kind) (slice_get tokens place) false
    → is ≡ first_is (of_kind kind) (drop place (lexemes_of text tokens))
kind_at text tokens place kind is e = e ∙ common (λ k _ _. is_kind kind k) false text tokens place

-- whether the word is at the place
pub word_at : (text : List ℕ) (tokens : List Token) (place : ℕ) (word : List ℕ) (is : Bool)
    → is
    ≡ option_map_or (λ (t : Token). is_kind Identifier t.kind && bytes_eq (part_of text t.span) word)
    (slice_get tokens place) false
    → is ≡ first_is (is_word word) (drop place (lexemes_of text tokens))
word_at text tokens place word is e =
    e ∙ common (λ k spelling _. is_kind Identifier k && bytes_eq spelling word) false text tokens place

-- where the token of the kind is that is at the place
pub span_at : (text : List ℕ) (tokens : List Token) (place : ℕ) (kind : TokenKind) (span : Option Span)
    → span
    ≡ option_map_or (λ (t : Token). cond (is_kind kind t.kind) (Some t.span) None) (slice_get tokens place) None
    → span
    ≡ option_map_or (λ (t : Lexeme). cond (of_kind kind t) (Some t.span) None)
    (first (drop place (lexemes_of text tokens))) None
span_at text tokens place kind span e =
    e ∙ common (λ k _ span. cond (is_kind kind k) (Some span) None) None text tokens place
