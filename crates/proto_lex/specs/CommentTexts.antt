-- The lines that tokens and comments touch, and the texts of comments without their marks, for what reads them
-- (proto3 language guide, Adding Comments; how texts belong to declarations is the profile's).
use Rattle.std.specs.Prelude.{ℕ, ◌-◌, ◌≤◌, ◌⊎◌, ◌==◌, if◌then◌else◌, List, [], ◌∷◌, length, take, drop, All}
use Rattle.std.specs.Io.BufRead.{strip_last}
use Rattle.proto_lex.specs.Position.{line_of}
use Rattle.proto_lex.specs.declared.span.Span.{Span}
use Rattle.proto_lex.specs.declared.token.Token.{Token}
use Rattle.proto_lex.specs.declared.token.CommentKind.{CommentKind}
use Rattle.proto_lex.specs.declared.token.CommentKind.TheVariants.{Line, Block}
use Rattle.proto_lex.specs.Ascii as ascii

-- a part of a text touches the lines from that of its start to that of its end; no token or comment ends with a \n
abbrev pub Touches : List ℕ → Span → ℕ → Type 0
Touches text span line = (line_of text span.start ≤ line) × (line ≤ line_of text span.end)

-- a comment is alone if no token touches any of the lines that it touches
abbrev pub StandsAlone : List ℕ → List Token → Span → Type 0
StandsAlone text tokens comment =
    All (λ t. (line : ℕ) → Touches text comment line → Touches text t.span line → ⊥) tokens

-- no token is between two offsets
abbrev pub NoneBetween : List Token → (from upto : ℕ) → Type 0
NoneBetween tokens from upto = All (λ t. (t.span.end ≤ from) ⊎ (upto ≤ t.span.start)) tokens

abbrev pub without_first_space : List ℕ → List ℕ
without_first_space [] = []
without_first_space (byte ∷ others) = if byte == ascii.space then others else byte ∷ others

-- the text of a comment with this spelling: of a line comment what follows the slashes, without one \r at its end and
-- then without one space at its start; of a block comment all that is between its marks
abbrev pub comment_text : CommentKind → List ℕ → List ℕ
comment_text Line spelling = without_first_space (strip_last ascii.carriage_return (drop 2 spelling))
comment_text Block spelling = take (length spelling - 4) (drop 2 spelling)
