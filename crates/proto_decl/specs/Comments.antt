-- Which comments document a declaration (proto3 language guide, "Adding Comments"; the rules are the profile's).
use Rattle.std.specs.Prelude.{ℕ, ◌≡◌, ◌+◌, ◌<◌, ◌≤◌, List, [], ◌∷◌, ◌++◌, length, map, All, Contains}
use Rattle.std.specs.List.{join_with_byte}
use Rattle.proto_lex.specs.Ascii as ascii
use Rattle.proto_lex.specs.Position.{line_of}
use Rattle.proto_lex.specs.Lexed.{Lexed, part_of}
use Rattle.proto_lex.specs.CommentTexts.{Touches, StandsAlone, NoneBetween, comment_text}
use Rattle.proto_lex.specs.declared.span.Span.{Span}
use Rattle.proto_lex.specs.declared.token.Comment.{Comment}
use Rattle.comment_texts.specs.Cleaned.{clean_text, written_in}
use Rattle.comment_texts.specs.Nul.{without_nul}
use Rattle.comment_texts.specs.declared.form.CommentForm.{CommentForm}
use Rattle.comment_texts.specs.declared.form.CommentForm.TheVariants.{Raw, Clean, RawWithoutNul, CleanWithoutNul}

-- the text of a comment, without its marks
abbrev pub text_of : Lexed → Comment → List ℕ
text_of lexed comment = comment_text comment.kind (part_of lexed.text comment.span)

-- the texts of comments: as they are written, a line each, or cleaned; and the same without NUL
abbrev pub texts_in : CommentForm → Lexed → List Comment → List ℕ
texts_in Raw lexed comments = join_with_byte ascii.line_feed (map (text_of lexed) comments)
texts_in Clean lexed comments = clean_text (map (written_in lexed.text) comments)
texts_in RawWithoutNul lexed comments = without_nul (join_with_byte ascii.line_feed (map (text_of lexed) comments))
texts_in CleanWithoutNul lexed comments = without_nul (clean_text (map (written_in lexed.text) comments))

-- the line on which a span begins, and that on which it ends
abbrev pub first_line : Lexed → Span → ℕ
first_line lexed span = line_of lexed.text span.start

abbrev pub last_line : Lexed → Span → ℕ
last_line lexed span = line_of lexed.text span.end

-- a token is the first on its line: no token that begins before it touches that line
abbrev pub IsFirstOnLine : Lexed → Span → Type 0
IsFirstOnLine lexed span = All
    (λ t. t.span.start < span.start → Touches lexed.text t.span (first_line lexed span) → ⊥) lexed.tokens

-- each comment begins on the line on which the one before it ends, or on the next
abbrev pub AreJoined : Lexed → List Comment → Type 0
AreJoined lexed [] = Unit {0}
AreJoined lexed (comment ∷ []) = Unit {0}
AreJoined lexed (comment ∷ (next ∷ others)) =
    (last_line lexed comment.span ≤ first_line lexed next.span)
    × (first_line lexed next.span ≤ last_line lexed comment.span + 1) × AreJoined lexed (next ∷ others)

-- the last comment ends on the line before a line
abbrev pub EndBefore : Lexed → (line : ℕ) → List Comment → Type 0
EndBefore lexed line [] = Unit {0}
EndBefore lexed line (comment ∷ []) = last_line lexed comment.span + 1 ≡ line
EndBefore lexed line (comment ∷ (next ∷ others)) = EndBefore lexed line (next ∷ others)

-- Comments that may lead a declaration on a line: consecutive ones of the file that are alone, joined, up to the line
-- before. No comments are such a list too.
pub record AreLeading (lexed : Lexed) (line : ℕ) (comments : List Comment) : Type 0 where
  pub before : List Comment
  pub behind : List Comment
  pub consecutive : lexed.comments ≡ before ++ (comments ++ behind)
  pub alone : All (λ c. StandsAlone lexed.text lexed.tokens c.span) comments
  pub joined : AreJoined lexed comments
  pub adjoining : EndBefore lexed line comments

-- the longest such list
pub record AreLongestLeading (lexed : Lexed) (line : ℕ) (comments : List Comment) : Type 0 where
  pub leading : AreLeading lexed line comments
  pub longest : (others : List Comment) → AreLeading lexed line others → length others ≤ length comments

-- The leading text of a declaration with this first token: the texts of the longest such list. If the token isn't the
-- first on its line, there is none.
pub data IsLeadingText (form : CommentForm) (lexed : Lexed) (first : Span) : List ℕ → Type 0 where
  leading : {comments : List Comment} → IsFirstOnLine lexed first
      → AreLongestLeading lexed (first_line lexed first) comments
      → IsLeadingText form lexed first (texts_in form lexed comments)
  not_first : (IsFirstOnLine lexed first → ⊥) → IsLeadingText form lexed first []

-- The first comment after a declaration's closing token, if it begins on that token's line and no token is between.
pub record IsTrailing (lexed : Lexed) (closing : Span) (comment : Comment) : Type 0 where
  pub listed : Contains lexed.comments comment
  pub behind : closing.end ≤ comment.span.start
  pub first : All (λ other. closing.end ≤ other.span.start → comment.span.start ≤ other.span.start) lexed.comments
  pub on_line : first_line lexed comment.span ≡ last_line lexed closing
  pub none_between : NoneBetween lexed.tokens closing.end comment.span.start

-- The trailing text of a declaration with this closing token.
pub data IsTrailingText (form : CommentForm) (lexed : Lexed) (closing : Span) : List ℕ → Type 0 where
  trailing : {comment : Comment} → IsTrailing lexed closing comment
      → IsTrailingText form lexed closing (texts_in form lexed (comment ∷ []))
  none : ((comment : Comment) → IsTrailing lexed closing comment → ⊥) → IsTrailingText form lexed closing []
