-- What is between the marks of a comment, and its lines (proto3 language guide, "Adding Comments"; `descriptor.proto`,
-- SourceCodeInfo.Location, leading_comments; what is more than there is the profile's).
use Rattle.std.specs.Prelude.{ℕ, ◌-◌, Bool, ◌||◌, if◌then◌else◌, List, [], ◌∷◌, length, take, drop, map, nat_eq, Option, Some, None}
use Rattle.std.specs.List.{flat_map, slice_split}
use Rattle.std.specs.Option.{option_to_list}
use Rattle.proto_lex.specs.Ascii as ascii
use Rattle.proto_lex.specs.Comments.{IsComment}
use Rattle.proto_lex.specs.Lexed.{IsPart, part_of}
use Rattle.proto_lex.specs.declared.token.Comment.{Comment}
use Rattle.proto_lex.specs.declared.token.CommentKind.{CommentKind}
use Rattle.proto_lex.specs.declared.token.CommentKind.TheVariants.{Line, Block}
use Rattle.comment_texts.specs.Lines.{indentation, without_blanks, common_indentation}

-- a comment is in a text, spelled as one of its kind
pub record IsCommentIn (text : List ℕ) (comment : Comment) : Type 0 where
  pub part : IsPart text comment.span
  pub spelled : IsComment comment.kind (part_of text comment.span) (drop comment.span.end text)

-- what is behind the `//` of a line comment, or between the `/*` and the `*/` of a block comment
abbrev pub between_marks : CommentKind → (spelling : List ℕ) → List ℕ
between_marks Line spelling = drop 2 spelling
between_marks Block spelling = take (length spelling - 4) (drop 2 spelling)

abbrev pub exclamation : ℕ
exclamation = 33

-- the third sign of a mark: that of `///` or `/**`, which is the second one again, or that of `//!` or `/*!`
abbrev pub is_third_sign : (second : ℕ) → ℕ → Bool
is_third_sign second b = nat_eq b second || nat_eq b exclamation

abbrev pub without_third_sign : (second : ℕ) → List ℕ → List ℕ
without_third_sign second [] = []
without_third_sign second (b ∷ others) = if is_third_sign second b then others else b ∷ others

-- what a line comment says on its line: what is behind its mark, without one blank
abbrev pub line_text : (between : List ℕ) → List ℕ
line_text between = without_blanks 1 (without_third_sign ascii.slash between)

-- the first line of a block comment: what is behind its mark, without the blanks there
abbrev pub first_line : List ℕ → List ℕ
first_line line = without_blanks (length line) (without_third_sign ascii.star line)

-- what is behind a star, without one blank
abbrev pub after_star : List ℕ → Option (List ℕ)
after_star [] = None
after_star (b ∷ others) = if nat_eq b ascii.star then Some (without_blanks 1 others) else None

-- what is behind the star of another line of a block comment, if there is one behind the line's first blanks
abbrev pub behind_star : List ℕ → Option (List ℕ)
behind_star line = after_star (drop (indentation line) line)

-- such a line, if it has a star, and if it has none
abbrev pub starred : List ℕ → List (List ℕ)
starred line = option_to_list (behind_star line)

abbrev pub unless_starred : Option (List ℕ) → List ℕ → List (List ℕ)
unless_starred (Some behind) line = []
unless_starred None line = line ∷ []

abbrev pub plain : List ℕ → List (List ℕ)
plain line = unless_starred (behind_star line) line

-- the common indentation of the lines with a star, behind it, and that of the lines without one
abbrev pub star_indentation : List (List ℕ) → ℕ
star_indentation lines = common_indentation (flat_map starred lines)

abbrev pub plain_indentation : List (List ℕ) → ℕ
plain_indentation lines = common_indentation (flat_map plain lines)

-- a line without its star, if it has one, and without the common indentation of its like
abbrev pub dedented : (stars plains : ℕ) → Option (List ℕ) → List ℕ → List ℕ
dedented stars plains (Some behind) line = without_blanks stars behind
dedented stars plains None line = without_blanks plains line

-- the lines of a block comment behind its first
abbrev pub other_lines : List (List ℕ) → List (List ℕ)
other_lines lines =
    map (λ line. dedented (star_indentation lines) (plain_indentation lines) (behind_star line) line) lines

-- the lines of a block comment
abbrev pub block_lines : List (List ℕ) → List (List ℕ)
block_lines [] = []
block_lines (first ∷ others) = first_line first ∷ other_lines others

-- the lines of a text: what is between its \n, and before and behind them
abbrev pub lines_of : List ℕ → List (List ℕ)
lines_of text = slice_split (λ b. nat_eq b ascii.line_feed) text
