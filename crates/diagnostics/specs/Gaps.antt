-- Gaps: the blanks and comments between tokens. (Protocol Buffers Version 3 Language Specification, Lexical Elements)
use Rattle.std.specs.Prelude.{ℕ, zero, suc, ◌+◌, Bool, false, ◌&&◌, not, List, [], ◌∷◌, length, drop, nat_eq}
use Rattle.std.specs.Prelude.{if◌then◌else◌}
use Rattle.std.specs.List.{prefix_len}
use Rattle.proto_lex.specs.Ascii.{slash, star}
use Rattle.proto_lex.specs.Bytes.{is_blank}
use Rattle.proto_lex.specs.Position.{is_line_end}

-- bytes begin with these two
abbrev pub begins : (first second : ℕ) → List ℕ → Bool
begins first second [] = false
begins first second (byte ∷ []) = false
begins first second (byte ∷ next ∷ bytes) = nat_eq byte first && nat_eq next second

-- how many bytes a comment has behind its `/*`: up to its `*/`, or all if that is missing
abbrev pub comment_len : List ℕ → ℕ
comment_len [] = 0
comment_len (byte ∷ bytes) = if begins star slash (byte ∷ bytes) then 2 else 1 + comment_len bytes

-- how many bytes the comment has that the bytes begin with, without the end of its line, or else the blanks
abbrev pub piece_len : List ℕ → ℕ
piece_len bytes =
    if begins slash slash bytes then prefix_len (λ byte. not (is_line_end byte)) bytes
    else if begins slash star bytes then 2 + comment_len (drop 2 bytes)
    else prefix_len is_blank bytes

-- what is behind so many comments and rows of blanks at most
abbrev pub behind_pieces : ℕ → List ℕ → List ℕ
behind_pieces zero bytes = bytes
behind_pieces (suc count) bytes =
    if nat_eq (piece_len bytes) 0 then bytes else behind_pieces count (drop (piece_len bytes) bytes)

-- what is behind the gap that bytes begin with
abbrev pub behind_gap : List ℕ → List ℕ
behind_gap bytes = behind_pieces (length bytes) bytes
