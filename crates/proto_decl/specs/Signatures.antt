-- How a declaration reads: its tokens from the first up to its options or its body (the profile's).
use Rattle.std.specs.Prelude.{◌≡◌, ℕ, ◌+◌, ◌==◌, Bool, true, false, not, if◌then◌else◌, List, [], ◌∷◌, ◌++◌, take}
use Rattle.std.specs.Prelude.{drop, Some}
use Rattle.std.specs.List.{prefix_len, slice_get}
use Rattle.proto_lex.specs.Ascii as ascii
use Rattle.proto_lex.specs.Lexed.{Lexed, part_of}
use Rattle.proto_lex.specs.declared.span.Span.{Span}
use Rattle.proto_lex.specs.declared.token.Token.{Token}
use Rattle.proto_lex.specs.declared.token.TokenKind.{TokenKind}
use Rattle.proto_lex.specs.declared.token.TokenKind.TheVariants.{Semicolon, OpenBrace, OpenBracket}

-- The token with this index is at this span.
pub record IsTokenAt (lexed : Lexed) (span : Span) (index : ℕ) : Type 0 where
  pub token : Token
  pub listed : slice_get lexed.tokens index ≡ Some token
  pub at : token.span ≡ span

-- a token is at this span
abbrev pub HasTokenAt : Lexed → Span → Type 0
HasTokenAt lexed span = (index : ℕ) × IsTokenAt lexed span index

-- what a signature ends before: the end of its statement, a body, or options
abbrev pub ends_signature : TokenKind → Bool
ends_signature Semicolon = true
ends_signature OpenBrace = true
ends_signature OpenBracket = true
ends_signature _ = false

-- The tokens up to the first that ends a signature: all, if none does. In a file that has a tree one does.
abbrev pub up_to_ending : List Token → List Token
up_to_ending tokens = take (prefix_len (λ t. not (ends_signature t.kind)) tokens) tokens

-- between two tokens: a space, if anything is between them in the text
abbrev pub gap_between : Span → Span → List ℕ
gap_between before behind = if before.end == behind.start then [] else ascii.space ∷ []

-- The spellings of tokens behind one at a span, with the gaps before each.
abbrev pub spelled_behind : (text : List ℕ) → Span → List Token → List ℕ
spelled_behind text before [] = []
spelled_behind text before (token ∷ others) =
    gap_between before token.span ++ (part_of text token.span ++ spelled_behind text token.span others)

-- The signature of a declaration with this first token. The rows:
--   `repeated string authors = 3;`                            `repeated string authors = 3`
--   `map<string,  /* to */ Copy> copies=6 [deprecated=true];` `map<string, Copy> copies=6`
--   `rpc Lend(stream Loan) returns (Receipt);`                `rpc Lend(stream Loan) returns (Receipt)`
--   `message Book {`                                          `message Book`
--   `optional group Result = 1 {` (its field and its message) `optional group Result = 1`
--   `OPEN = 0;` in an enum                                    `OPEN = 0`
pub record IsSignatureText (lexed : Lexed) (first : Span) (signature : List ℕ) : Type 0 where
  pub index : ℕ
  pub begins : IsTokenAt lexed first index
  pub text : signature
      ≡ part_of lexed.text first ++ spelled_behind lexed.text first (up_to_ending (drop (index + 1) lexed.tokens))
