use Rattle.std.specs.Prelude.{◌≡◌, ℕ, ◌+◌, Bool, true, false, ◌||◌, cond, Option, Some, None, List, [], ◌∷◌, ◌++◌, length}
use Rattle.std.specs.Prelude.{nat_eq, nat_le, nat_lt, ◌&&◌, not, is_some, reverse}
use Rattle.std.specs.List.{list_all}
use Rattle.proto_lex.specs.Bytes.{is_blank, is_letter, is_digit, is_word, is_quote, starts}
use Rattle.proto_lex.specs.Numbers.{IsInteger, IsFloat, run_of}
use Rattle.proto_lex.specs.Literals.{EndsLiteral}
use Rattle.proto_lex.specs.Comments.{IsComment}
use Rattle.proto_lex.specs.Hashes.{Where, Plain, Behind, Commented, behind, is_in_value, listed, past_token, past_odd}
use Rattle.proto_lex.specs.declared.hashes.Hashes.{Hashes}
use Rattle.proto_lex.specs.declared.hashes.Hashes.TheVariants.{Nowhere}
use Rattle.proto_lex.specs.declared.span.Span.{Span}
use Rattle.proto_lex.specs.declared.token.Token.{Token}
use Rattle.proto_lex.specs.declared.token.TokenKind.{TokenKind}
use Rattle.proto_lex.specs.declared.token.TokenKind.TheVariants as kind
use Rattle.proto_lex.specs.declared.token.Comment.{Comment}
use Rattle.proto_lex.specs.declared.token.CommentKind.{CommentKind}
use Rattle.proto_lex.specs.Ascii as ascii

-- The tokens and comments of a text (proto3 specification, Lexical elements).

-- the signs: each is one character
abbrev pub signs : List (ℕ × TokenKind)
signs =
    (ascii.semicolon, kind.Semicolon)
    ∷ (ascii.equals, kind.Equals)
    ∷ (ascii.open_brace, kind.OpenBrace)
    ∷ (ascii.close_brace, kind.CloseBrace)
    ∷ (ascii.open_bracket, kind.OpenBracket)
    ∷ (ascii.close_bracket, kind.CloseBracket)
    ∷ (ascii.open_parenthesis, kind.OpenParenthesis)
    ∷ (ascii.close_parenthesis, kind.CloseParenthesis)
    ∷ (ascii.less, kind.Less)
    ∷ (ascii.greater, kind.Greater)
    ∷ (ascii.comma, kind.Comma)
    ∷ (ascii.dot, kind.Dot)
    ∷ (ascii.colon, kind.Colon)
    ∷ (ascii.plus, kind.Plus)
    ∷ (ascii.minus, kind.Minus)
    ∷ (ascii.slash, kind.Slash)
    ∷ []

-- the kind that a table has for a character
abbrev pub kind_in : List (ℕ × TokenKind) → ℕ → Option TokenKind
kind_in [] b = None
kind_in (sign ∷ others) b = cond (nat_eq b sign.0) (Some sign.1) (kind_in others b)

-- the sign that is this one character
abbrev pub sign_kind : ℕ → Option TokenKind
sign_kind b = kind_in signs b

-- the bytes spell a token of this kind
pub data Spells : TokenKind → List ℕ → Type 0 where
  identifier : {b : ℕ} {others : List ℕ} → is_letter b ≡ true → list_all is_word others ≡ true
      → Spells kind.Identifier (b ∷ others)
  integer : {word : List ℕ} → IsInteger word → Spells kind.Integer word
  float : {word : List ℕ} → IsFloat word → Spells kind.Float word
  literal : {quote : ℕ} {others : List ℕ} → is_quote quote ≡ true → EndsLiteral quote others
      → Spells kind.StringLiteral (quote ∷ others)
  sign : {b : ℕ} {k : TokenKind} → sign_kind b ≡ Some k → Spells k (b ∷ [])

-- such a word is a whole token if this rest of the text follows: an identifier doesn't go on, a number is its whole
-- run (the profile's, over the longest number), a `.` begins no number and a `/` no comment
abbrev pub IsWhole : TokenKind → (word rest : List ℕ) → Type 0
IsWhole kind.Identifier word rest = starts is_word rest ≡ false
IsWhole kind.Integer word rest = run_of (word ++ rest) ≡ word
IsWhole kind.Float word rest = run_of (word ++ rest) ≡ word
IsWhole kind.Dot word rest = starts is_digit rest ≡ false
IsWhole kind.Slash word rest = starts (λ b. nat_eq b ascii.slash || nat_eq b ascii.star) rest ≡ false
IsWhole _ word rest = Unit {0}

-- the token of this kind, before the rest of the text
pub record IsToken (k : TokenKind) (word rest : List ℕ) : Type 0 where
  pub spelled : Spells k word
  pub whole : IsWhole k word rest

-- the part of this many bytes at a place
abbrev pub part : (at count : ℕ) → Span
part at count = record { start = at; end = at + count }

-- a character that begins no token (protoc takes DEL for one)
abbrev pub is_odd : ℕ → Bool
is_odd b =
    (nat_lt ascii.space b && nat_le b ascii.delete)
    && not (is_letter b || is_digit b || is_quote b || is_some (sign_kind b))

-- whether such a character is the `#` of a comment, or in one
abbrev pub is_odd_in : Where → ℕ → Bool
is_odd_in Plain b = false
is_odd_in (Behind tokens) b = nat_eq b ascii.hash && is_in_value 0 (reverse tokens)
is_odd_in (Commented tokens depth) b = is_odd b

-- the bytes after a place in a text are blanks, comments and tokens in turn, with these tokens and comments; those are
-- left out that are in a comment that a `#` begins
pub data LexesFrom : Where → (at : ℕ) (bytes : List ℕ) → List Token → List Comment → Type 0 where
  at_end : {place : Where} {at : ℕ} → LexesFrom place at [] [] []
  blank : {place : Where} {at b : ℕ} {rest : List ℕ} {tokens : List Token} {comments : List Comment}
      → is_blank b ≡ true → LexesFrom place (at + 1) rest tokens comments
      → LexesFrom place at (b ∷ rest) tokens comments
  comment : {place : Where} {at : ℕ} {k : CommentKind} {word rest : List ℕ} {tokens : List Token}
      {comments : List Comment}
      → IsComment k word rest → LexesFrom place (at + length word) rest tokens comments
      → LexesFrom place at (word ++ rest) tokens (record { kind = k; span = part at (length word) } ∷ comments)
  token : {place : Where} {at : ℕ} {k : TokenKind} {word rest : List ℕ} {tokens : List Token} {comments : List Comment}
      → IsToken k word rest
      → LexesFrom (past_token place (record { kind = k; span = part at (length word) })) (at + length word) rest tokens
      comments
      → LexesFrom place at (word ++ rest) (listed place (record { kind = k; span = part at (length word) }) tokens)
      comments
  odd : {place : Where} {at b : ℕ} {rest : List ℕ} {tokens : List Token} {comments : List Comment}
      → is_odd_in place b ≡ true → LexesFrom (past_odd place) (at + 1) rest tokens comments
      → LexesFrom place at (b ∷ rest) tokens comments

-- the text is a gap, a token, a gap and so on, where a gap is blanks and comments; a byte order mark at its very
-- start is a blank (the profile's)
pub data LexesWith (hashes : Hashes) : (text : List ℕ) → (tokens : List Token) → (comments : List Comment) → Type 0 where
  unmarked : {text : List ℕ} {tokens : List Token} {comments : List Comment}
      → LexesFrom (behind hashes []) 0 text tokens comments → LexesWith hashes text tokens comments
  marked : {rest : List ℕ} {tokens : List Token} {comments : List Comment}
      → LexesFrom (behind hashes []) 3 rest tokens comments
      → LexesWith hashes (ascii.mark_first ∷ (ascii.mark_second ∷ (ascii.mark_third ∷ rest))) tokens comments

-- the same, as proto3 has it
abbrev pub Lexes : (text : List ℕ) → (tokens : List Token) → (comments : List Comment) → Type 0
Lexes = LexesWith Nowhere
