use Rattle.std.specs.Prelude.{◌≡◌, ℕ, zero, suc, ◌+◌, ◌-◌, ◌<◌, ◌≤◌, ◌⊎◌, Bool, true, false, ◌||◌, ◌&&◌, not, cond, Option, Some}
use Rattle.std.specs.Prelude.{None, Result, Ok, Err, List, [], ◌∷◌, ◌++◌, length, take, drop, nat_eq, nat_le}
use Rattle.std.specs.List.{list_all, prefix_len}
use Rattle.proto_lex.specs.Bytes.{is_blank, is_letter, is_digit, is_octal_digit, is_hex_digit, is_word}
use Rattle.proto_lex.specs.Bytes.{is_plus_or_minus, is_exponent_mark, is_hex_mark, is_quote, starts}
use Rattle.proto_lex.specs.Numbers.{begins_number, run_of}
use Rattle.proto_lex.specs.Literals.{is_escape_letter}
use Rattle.proto_lex.specs.Comments.{begins_close}
use Rattle.proto_lex.specs.Hashes.{Where, Behind, Commented, behind, opened, listed, past_token, past_odd}
use Rattle.proto_lex.specs.Lexes.{sign_kind, is_odd_in, part}
use Rattle.proto_lex.specs.declared.hashes.Hashes.{Hashes}
use Rattle.proto_lex.specs.declared.fault.LexFault.{LexFault}
use Rattle.proto_lex.specs.declared.fault.LexFault.TheVariants.{Memory, BadByte, OpenString, OpenComment, BadEscape}
use Rattle.proto_lex.specs.declared.fault.LexFault.TheVariants.{BadNumber}
use Rattle.proto_lex.specs.declared.lexer.piece.Piece.{Piece}
use Rattle.proto_lex.specs.declared.lexer.piece.PieceKind.{PieceKind}
use Rattle.proto_lex.specs.declared.lexer.piece.PieceKind.TheVariants as piece
use Rattle.proto_lex.specs.declared.span.Span.{Span}
use Rattle.proto_lex.specs.declared.token.Token.{Token}
use Rattle.proto_lex.specs.declared.token.TokenKind.{TokenKind}
use Rattle.proto_lex.specs.declared.token.TokenKind.TheVariants as kind
use Rattle.proto_lex.specs.declared.token.Comment.{Comment}
use Rattle.proto_lex.specs.declared.token.CommentKind.TheVariants as comment
use Rattle.proto_lex.specs.Ascii as ascii

-- What the lexer's private functions give, with the fault that comes first. Public contracts speak of `Lexes`.

abbrev pub Read : Type 0 → Type 0
Read A = Result A LexFault

infixl 10 ◌>>=◌
abbrev pub ◌>>=◌ : {A B : Type 0} → Read A → (A → Read B) → Read B
Ok x >>= next = next x
Err fault >>= next = Err fault

-- the bytes after those at the front that pass
abbrev pub past : (ℕ → Bool) → List ℕ → List ℕ
past test bytes = drop (prefix_len test bytes) bytes

abbrev pub is_in_line : ℕ → Bool
is_in_line b = not (nat_eq b ascii.line_feed)

-- numbers

abbrev pub are_digits : List ℕ → Bool
are_digits [] = false
are_digits (d ∷ others) = list_all is_digit (d ∷ others)

abbrev pub are_hex_digits : List ℕ → Bool
are_hex_digits [] = false
are_hex_digits (d ∷ others) = list_all is_hex_digit (d ∷ others)

abbrev pub is_zero_integer : List ℕ → Bool
is_zero_integer [] = true
is_zero_integer (x ∷ others) = cond (is_hex_mark x) (are_hex_digits others) (list_all is_octal_digit (x ∷ others))

abbrev pub is_integer : List ℕ → Bool
is_integer [] = false
is_integer (d ∷ others) = cond (nat_eq d ascii.zero) (is_zero_integer others) (is_digit d && list_all is_digit others)

abbrev pub past_sign : List ℕ → List ℕ
past_sign [] = []
past_sign (s ∷ others) = cond (is_plus_or_minus s) others (s ∷ others)

abbrev pub is_exponent_or_none : List ℕ → Bool
is_exponent_or_none [] = true
is_exponent_or_none (e ∷ others) = is_exponent_mark e && are_digits (past_sign others)

abbrev pub ends_fraction : List ℕ → Bool
ends_fraction bytes = is_exponent_or_none (past is_digit bytes)

abbrev pub ends_whole : List ℕ → Bool
ends_whole [] = false
ends_whole (b ∷ others) = cond (nat_eq b ascii.dot) (ends_fraction others) (is_exponent_or_none (b ∷ others))

abbrev pub is_float : List ℕ → Bool
is_float [] = false
is_float (b ∷ others) =
    cond (nat_eq b ascii.dot) (starts is_digit others && ends_fraction others)
    (is_digit b && ends_whole (past is_digit others))

abbrev pub number_kind : List ℕ → Option TokenKind
number_kind run = cond (is_integer run) (Some kind.Integer) (cond (is_float run) (Some kind.Float) None)

abbrev pub token : TokenKind → ℕ → Piece
token k len = record { kind = piece.Token k; len = len }

abbrev pub numbered : ℕ → Option TokenKind → ℕ → Read Piece
numbered at None len = Err (BadNumber at)
numbered at (Some k) len = Ok (token k len)

unfoldable pub number_at : ℕ → List ℕ → Read Piece
number_at at bytes = numbered at (number_kind (run_of bytes)) (length (run_of bytes))

-- strings

abbrev pub begins_with_hex : ℕ → List ℕ → Bool
begins_with_hex count bytes = nat_le count (length bytes) && list_all is_hex_digit (take count bytes)

abbrev pub begins_last_unicode : List ℕ → Bool
begins_last_unicode [] = false
begins_last_unicode (d ∷ others) = nat_eq d ascii.zero && begins_with_hex 4 others

abbrev pub begins_long_unicode : List ℕ → Bool
begins_long_unicode (a ∷ (b ∷ (c ∷ others))) =
    nat_eq a ascii.zero && nat_eq b ascii.zero
    && cond (nat_eq c ascii.zero) (begins_with_hex 5 others) (nat_eq c ascii.one && begins_last_unicode others)
begins_long_unicode _ = false

-- how many bytes an escape takes after its `\`; a second hexadecimal digit, and a second and third octal one, are
-- read as characters
abbrev pub escape_len : List ℕ → Option ℕ
escape_len [] = None
escape_len (b ∷ others) =
    cond (is_escape_letter b || is_octal_digit b) (Some 1) (
    cond (is_hex_mark b) (cond (begins_with_hex 1 others) (Some 2) None) (
    cond (nat_eq b ascii.lower_u) (cond (begins_with_hex 4 others) (Some 5) None) (
    cond (nat_eq b ascii.upper_u) (cond (begins_long_unicode others) (Some 9) None) None)))

abbrev pub escaped : ℕ → Option ℕ → Read ℕ
escaped at None = Err (BadEscape at)
escaped at (Some len) = Ok (len + 1)

-- how many bytes the character b, or the escape that it begins, takes in a string that opens at a place
unfoldable pub character_at : (opening at b : ℕ) → List ℕ → Read ℕ
character_at opening at b others =
    cond (nat_eq b ascii.line_feed) (Err (OpenString opening)) (
    cond (nat_eq b ascii.nul) (Err (BadByte at)) (
    cond (nat_eq b ascii.backslash) (escaped at (escape_len others)) (Ok 1)))

-- how many bytes a string takes, of which this many were read and the next `skip` are known to be in it
unfoldable pub literal_at : (quote opening skip len : ℕ) → List ℕ → Read ℕ
literal_at quote opening skip len [] = Err (OpenString opening)
literal_at quote opening (suc skip) len (b ∷ others) = literal_at quote opening skip (len + 1) others
literal_at quote opening zero len (b ∷ others) =
    cond (nat_eq b quote) (Ok (len + 1))
    (character_at opening (opening + len) b others >>= λ more. literal_at quote opening (more - 1) (len + 1) others)

-- comments

unfoldable pub block_at : ℕ → List ℕ → Option ℕ
block_at len [] = None
block_at len (b ∷ others) = cond (begins_close (b ∷ others)) (Some (len + 2)) (block_at (len + 1) others)

abbrev pub blocked : ℕ → Option ℕ → Read Piece
blocked at None = Err (OpenComment at)
blocked at (Some len) = Ok (record { kind = piece.Comment comment.Block; len = len })

-- what is at a place

abbrev pub past_first : List ℕ → List ℕ
past_first [] = []
past_first (b ∷ others) = others

abbrev pub slash_at : ℕ → List ℕ → Read Piece
slash_at at others =
    cond (starts (nat_eq ascii.slash) others)
    (Ok (record { kind = piece.Comment comment.Line; len = 1 + prefix_len is_in_line others })) (
    cond (starts (nat_eq ascii.star) others) (blocked at (block_at 2 (past_first others))) (Ok (token kind.Slash 1)))

abbrev pub signed : ℕ → Option TokenKind → Read Piece
signed at None = Err (BadByte at)
signed at (Some k) = Ok (token k 1)

unfoldable pub piece_at : ℕ → List ℕ → Read Piece
piece_at at [] = Err (BadByte at)
piece_at at (b ∷ others) =
    cond (is_blank b) (Ok (record { kind = piece.Blank; len = 1 })) (
    cond (is_letter b) (Ok (token kind.Identifier (1 + prefix_len is_word others))) (
    cond (begins_number (b ∷ others)) (number_at at (b ∷ others)) (
    cond (is_quote b) (literal_at b at 0 1 others >>= λ len. Ok (token kind.StringLiteral len)) (
    cond (nat_eq b ascii.slash) (slash_at at others) (
    signed at (sign_kind b))))))

-- what is at a place, where a `#` may begin a comment, or is in one

abbrev pub odd_piece : Piece
odd_piece = record { kind = piece.Odd; len = 1 }

unfoldable pub piece_in : Where → ℕ → List ℕ → Read Piece
piece_in place at [] = piece_at at []
piece_in place at (b ∷ others) = cond (is_odd_in place b) (Ok odd_piece) (piece_at at (b ∷ others))

-- whether the comment of a `#`, in which so many braces are open, ends before these bytes
abbrev pub comment_ends : (depth : ℕ) → List ℕ → Bool
comment_ends depth [] = true
comment_ends zero (b ∷ others) = nat_eq b ascii.close_brace
comment_ends (suc depth) (b ∷ others) = false

-- what is listed of a piece that is in it
abbrev pub kept_kind : PieceKind → PieceKind
kept_kind (piece.Comment k) = piece.Comment k
kept_kind _ = piece.Blank

-- how many braces are open in it behind a piece
abbrev pub opened_by : ℕ → PieceKind → ℕ
opened_by depth (piece.Token k) = opened depth k
opened_by depth _ = depth

-- where it is behind a piece
abbrev pub past_piece : Where → PieceKind → (at len : ℕ) → Where
past_piece place piece.Blank at len = place
past_piece place piece.Odd at len = past_odd place
past_piece place (piece.Comment k) at len = place
past_piece place (piece.Token k) at len = past_token place (record { kind = k; span = part at len })

-- the whole text

pub record Pieces : Type 0 where
  pub tokens : List Token
  pub comments : List Comment

abbrev pub pieces : List Token → List Comment → Pieces
pieces tokens comments = record { tokens = tokens; comments = comments }

-- the pieces read so far, and those after them
abbrev pub joined : Pieces → Read Pieces → Read Pieces
joined front (Err fault) = Err fault
joined front (Ok later) = Ok (pieces (front.tokens ++ later.tokens) (front.comments ++ later.comments))

-- the pieces read so far, and the one at a span
abbrev pub with_last : Pieces → PieceKind → Span → Pieces
with_last front piece.Blank span = front
with_last front piece.Odd span = front
with_last front (piece.Comment k) span =
    record front { comments = front.comments ++ record { kind = k; span = span } ∷ [] }
with_last front (piece.Token k) span = record front { tokens = front.tokens ++ record { kind = k; span = span } ∷ [] }

-- a piece, and those after it
abbrev pub with_first : Where → PieceKind → ℕ → ℕ → Pieces → Pieces
with_first place piece.Blank at len later = later
with_first place piece.Odd at len later = later
with_first place (piece.Comment k) at len later =
    record later { comments = record { kind = k; span = part at len } ∷ later.comments }
with_first place (piece.Token k) at len later =
    record later { tokens = listed place (record { kind = k; span = part at len }) later.tokens }

-- the pieces from a place on, where the next `skip` bytes belong to the piece before
unfoldable pub pieces_at : Where → (skip at : ℕ) → List ℕ → Read Pieces
pieces_at place skip at [] = Ok (pieces [] [])
pieces_at place (suc skip) at (b ∷ others) = pieces_at place skip (at + 1) others
pieces_at place zero at (b ∷ others) =
    piece_in place at (b ∷ others) >>= λ p. pieces_at (past_piece place p.kind at p.len) (p.len - 1) (at + 1) others
    >>= λ later. Ok (with_first place p.kind at p.len later)

abbrev pub mark_len : List ℕ → ℕ
mark_len (a ∷ (b ∷ (c ∷ rest))) =
    cond (nat_eq a ascii.mark_first && nat_eq b ascii.mark_second && nat_eq c ascii.mark_third) 3 0
mark_len _ = 0

unfoldable pub pieces_of : Hashes → List ℕ → Read Pieces
pieces_of hashes text = pieces_at (behind hashes []) 0 (mark_len text) (drop (mark_len text) text)

-- memory ran out, or the answer is what is read
abbrev pub GivesPieces : {X : Type 0} → (X → Pieces) → Result X LexFault → Read Pieces → Type 0
GivesPieces view (Ok x) read = read ≡ Ok (view x)
GivesPieces view (Err fault) read = (fault ≡ Memory) ⊎ (read ≡ Err fault)

-- The pieces `old`, and those after a `#` that begins a comment, are `new` and those behind the comment, which takes so
-- many bytes.
pub record PassesTo (old new : Pieces) (at : ℕ) (bytes : List ℕ) (len : ℕ) : Type 0 where
  pub within : len ≤ length bytes
  pub tokens : new.tokens ≡ old.tokens
  pub read : (tokens : List Token) → joined old (pieces_at (Commented tokens 0) 0 at bytes)
      ≡ joined new (pieces_at (Behind tokens) 0 (at + len) (drop len bytes))

-- memory ran out, or so it is read past the comment
abbrev pub PassesComment : (old new : Pieces) (at : ℕ) (bytes : List ℕ) → Result ℕ LexFault → Type 0
PassesComment old new at bytes (Ok len) = PassesTo old new at bytes len
PassesComment old new at bytes (Err fault) =
    (fault ≡ Memory) ⊎ ((tokens : List Token) → pieces_at (Commented tokens 0) 0 at bytes ≡ Err fault)

-- the pieces `old`, and those after them, are `new` and those behind so many bytes
pub record ReadsTo (hashes : Hashes) (old new : Pieces) (at : ℕ) (bytes : List ℕ) (len : ℕ) : Type 0 where
  pub some : 0 < len
  pub within : len ≤ length bytes
  pub read : joined old (pieces_at (behind hashes old.tokens) 0 at bytes)
      ≡ joined new (pieces_at (behind hashes new.tokens) 0 (at + len) (drop len bytes))

-- memory ran out, or so it is read
abbrev pub ReadsPiece : (hashes : Hashes) (old new : Pieces) (at : ℕ) (bytes : List ℕ) → Result ℕ LexFault → Type 0
ReadsPiece hashes old new at bytes (Ok len) = ReadsTo hashes old new at bytes len
ReadsPiece hashes old new at bytes (Err fault) =
    (fault ≡ Memory) ⊎ (pieces_at (behind hashes old.tokens) 0 at bytes ≡ Err fault)
