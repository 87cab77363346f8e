-- Why a text has no lexing: the fault that reading from left to right meets first.
use Rattle.std.specs.Prelude.{◌≡◌, ℕ, ◌+◌, Bool, true, false, ◌&&◌, not, None, List, [], ◌∷◌, ◌++◌, length, nat_eq}
use Rattle.proto_lex.specs.Bytes.{is_blank, is_letter, is_digit, is_quote, starts}
use Rattle.proto_lex.specs.Numbers.{IsInteger, IsFloat, begins_number, run_of}
use Rattle.proto_lex.specs.Literals.{is_plain, IsEscape}
use Rattle.proto_lex.specs.Comments.{EndsBlock, IsComment}
use Rattle.proto_lex.specs.Hashes.{Where, behind, past_token, past_odd}
use Rattle.proto_lex.specs.Lexes.{sign_kind, IsToken, is_odd_in, part}
use Rattle.proto_lex.specs.declared.hashes.Hashes.{Hashes}
use Rattle.proto_lex.specs.declared.hashes.Hashes.TheVariants.{Nowhere}
use Rattle.proto_lex.specs.declared.fault.LexFault.{LexFault}
use Rattle.proto_lex.specs.declared.fault.LexFault.TheVariants.{BadByte, OpenString, OpenComment, BadEscape, BadNumber}
use Rattle.proto_lex.specs.declared.token.TokenKind.{TokenKind}
use Rattle.proto_lex.specs.declared.token.CommentKind.{CommentKind}
use Rattle.proto_lex.specs.Ascii as ascii

-- in a string, the bytes after a place are characters and escapes up to a later place, after which these are left
pub data StaysInString (quote : ℕ) : (place : ℕ) (bytes : List ℕ) (later : ℕ) (left : List ℕ) → Type 0 where
  here : {place : ℕ} {bytes : List ℕ} → StaysInString quote place bytes place bytes
  character : {place later b : ℕ} {others left : List ℕ}
      → is_plain quote b ≡ true → StaysInString quote (place + 1) others later left
      → StaysInString quote place (b ∷ others) later left
  escape : {place later : ℕ} {letters others left : List ℕ}
      → IsEscape letters → StaysInString quote (place + (1 + length letters)) others later left
      → StaysInString quote place (ascii.backslash ∷ (letters ++ others)) later left

-- why what opens a string at `opening` is none, if these are the bytes from `place` on
pub data IsStringFault (quote opening : ℕ) : (place : ℕ) → List ℕ → LexFault → Type 0 where
  -- a \n or the end of the text comes first
  cut : {place later : ℕ} {bytes left : List ℕ}
      → StaysInString quote place bytes later left → starts (λ b. not (nat_eq b ascii.line_feed)) left ≡ false
      → IsStringFault quote opening place bytes (OpenString opening)
  -- a NUL
  nul : {place later : ℕ} {bytes left : List ℕ} → StaysInString quote place bytes later (ascii.nul ∷ left)
      → IsStringFault quote opening place bytes (BadByte later)
  -- a `\` that begins no escape
  no_escape : {place later : ℕ} {bytes left : List ℕ} → StaysInString quote place bytes later (ascii.backslash ∷ left)
      → ((letters rest : List ℕ) → IsEscape letters → left ≡ letters ++ rest → ⊥)
      → IsStringFault quote opening place bytes (BadEscape later)

-- why no blank, comment or token is at a place, where these bytes are the rest of the text
pub data IsFaultAt : (place : ℕ) → List ℕ → LexFault → Type 0 where
  unknown : {place b : ℕ} {others : List ℕ} → is_blank b ≡ false → is_letter b ≡ false → is_digit b ≡ false
      → is_quote b ≡ false
      → sign_kind b ≡ None → IsFaultAt place (b ∷ others) (BadByte place)
  no_number : {place : ℕ} {bytes : List ℕ} → begins_number bytes ≡ true → (IsInteger (run_of bytes) → ⊥)
      → (IsFloat (run_of bytes) → ⊥)
      → IsFaultAt place bytes (BadNumber place)
  no_close : {place : ℕ} {others : List ℕ} → ((inside rest : List ℕ) → EndsBlock inside → others ≡ inside ++ rest → ⊥)
      → IsFaultAt place (ascii.slash ∷ (ascii.star ∷ others)) (OpenComment place)
  no_string : {place quote : ℕ} {others : List ℕ} {fault : LexFault} → is_quote quote ≡ true
      → IsStringFault quote place (place + 1) others fault
      → IsFaultAt place (quote ∷ others) fault

-- the bytes after a place are blanks, comments and tokens up to this fault, which isn't that of a `#` that begins a
-- comment, nor of a character in one
pub data Meets : Where → (at : ℕ) → List ℕ → LexFault → Type 0 where
  fault : {place : Where} {at : ℕ} {bytes : List ℕ} {f : LexFault} → starts (is_odd_in place) bytes ≡ false
      → IsFaultAt at bytes f → Meets place at bytes f
  blank : {place : Where} {at b : ℕ} {rest : List ℕ} {f : LexFault} → is_blank b ≡ true → Meets place (at + 1) rest f
      → Meets place at (b ∷ rest) f
  comment : {place : Where} {at : ℕ} {k : CommentKind} {word rest : List ℕ} {f : LexFault}
      → IsComment k word rest → Meets place (at + length word) rest f → Meets place at (word ++ rest) f
  token : {place : Where} {at : ℕ} {k : TokenKind} {word rest : List ℕ} {f : LexFault} → IsToken k word rest
      → Meets (past_token place (record { kind = k; span = part at (length word) })) (at + length word) rest f
      → Meets place at (word ++ rest) f
  odd : {place : Where} {at b : ℕ} {rest : List ℕ} {f : LexFault}
      → is_odd_in place b ≡ true → Meets (past_odd place) (at + 1) rest f → Meets place at (b ∷ rest) f

-- the bytes begin with a byte order mark
abbrev pub begins_mark : List ℕ → Bool
begins_mark (a ∷ (b ∷ (c ∷ _))) = nat_eq a ascii.mark_first && nat_eq b ascii.mark_second && nat_eq c ascii.mark_third
begins_mark _ = false

-- the first fault of the text, after a byte order mark if it begins with one (that the first counts is the profile's)
pub data IsFirstFaultWith (hashes : Hashes) : List ℕ → LexFault → Type 0 where
  unmarked : {text : List ℕ} {f : LexFault} → begins_mark text ≡ false → Meets (behind hashes []) 0 text f
      → IsFirstFaultWith hashes text f
  marked : {rest : List ℕ} {f : LexFault} → Meets (behind hashes []) 3 rest f
      → IsFirstFaultWith hashes (ascii.mark_first ∷ (ascii.mark_second ∷ (ascii.mark_third ∷ rest))) f

-- the same, as proto3 has it
abbrev pub IsFirstFault : List ℕ → LexFault → Type 0
IsFirstFault = IsFirstFaultWith Nowhere
