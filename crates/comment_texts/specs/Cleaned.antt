-- The cleaned text of comments: what they say without the signs and blanks by which people set them off. Of the other
-- lines of a block comment the star goes, as `protoc` has it (`descriptor.proto`, SourceCodeInfo.Location,
-- leading_comments); the common indentation goes, and so do blanks at the ends of lines and empty lines at the ends of
-- the text (Python Enhancement Proposal 257, "Handling Docstring Indentation"). What is more is the profile's.
use Rattle.std.specs.Prelude.{ℕ, List, [], ◌∷◌, map}
use Rattle.std.specs.List.{flat_map, join_with_byte}
use Rattle.proto_lex.specs.Ascii as ascii
use Rattle.proto_lex.specs.Lexed.{part_of}
use Rattle.proto_lex.specs.declared.token.Comment.{Comment}
use Rattle.proto_lex.specs.declared.token.CommentKind.{CommentKind}
use Rattle.proto_lex.specs.declared.token.CommentKind.TheVariants.{Line, Block}
use Rattle.comment_texts.specs.Lines.{common_indentation, without_blanks, without_last_blanks, without_empty_ends}
use Rattle.comment_texts.specs.Comments.{between_marks, line_text, block_lines, lines_of}

-- a comment as it is written: its kind, and what is between its marks
pub record Written : Type 0 where
  pub kind : CommentKind
  pub between : List ℕ

-- a comment of a text, as it is written
abbrev pub written_in : List ℕ → Comment → Written
written_in text comment = record {
  kind = comment.kind;
  between = between_marks comment.kind (part_of text comment.span);
}

-- what a line comment says; nothing of a block comment
abbrev pub own_line : CommentKind → (between : List ℕ) → List (List ℕ)
own_line Line between = line_text between ∷ []
own_line Block between = []

-- the common indentation of the line comments
abbrev pub line_indentation : List Written → ℕ
line_indentation comments = common_indentation (flat_map (λ c. own_line c.kind c.between) comments)

-- the lines of a comment, among line comments with this common indentation
abbrev pub lines_with : (shared : ℕ) → CommentKind → (between : List ℕ) → List (List ℕ)
lines_with shared Line between = without_blanks shared (line_text between) ∷ []
lines_with shared Block between = block_lines (lines_of between)

-- the lines of comments, without the blanks at their ends
abbrev pub clean_lines : List Written → List (List ℕ)
clean_lines comments =
    flat_map (λ c. map without_last_blanks (lines_with (line_indentation comments) c.kind c.between)) comments

-- the cleaned text of comments
abbrev pub clean_text : List Written → List ℕ
clean_text comments = join_with_byte ascii.line_feed (without_empty_ends (clean_lines comments))
