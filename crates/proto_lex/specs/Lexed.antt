-- A text with its tokens and comments, and what is known of their places.
use Rattle.std.specs.Prelude.{ℕ, ◌<◌, ◌≤◌, ◌⊎◌, List, [], ◌∷◌, length, drop, map, All, IsCharBoundary}
use Rattle.std.specs.List.{slice_range}
use Rattle.proto_lex.specs.Comments.{IsComment}
use Rattle.proto_lex.specs.Lexes.{Spells, LexesWith}
use Rattle.proto_lex.specs.declared.hashes.Hashes.{Hashes}
use Rattle.proto_lex.specs.declared.span.Span.{Span}
use Rattle.proto_lex.specs.declared.token.Token.{Token}
use Rattle.proto_lex.specs.declared.token.Comment.{Comment}

pub record Lexed : Type 0 where
  pub text : List ℕ
  pub tokens : List Token
  pub comments : List Comment

-- the bytes of a part of a text
abbrev pub part_of : List ℕ → Span → List ℕ
part_of text span = slice_range text span.start span.end

-- a part of the text that isn't empty, and begins and ends between two characters or at the text's ends
pub record IsPart (text : List ℕ) (span : Span) : Type 0 where
  pub some : span.start < span.end
  pub within : span.end ≤ length text
  pub starts_whole : IsCharBoundary text span.start
  pub ends_whole : IsCharBoundary text span.end

-- none of the spans is empty, and each begins at the place or after it, and not before the end of the one before
abbrev pub AreInOrder : (place : ℕ) → List Span → Type 0
AreInOrder place [] = Unit {0}
AreInOrder place (span ∷ spans) = (place ≤ span.start) × (span.start < span.end) × AreInOrder span.end spans

-- one of the two spans ends before the other begins, or where it does
abbrev pub AreApart : Span → Span → Type 0
AreApart a b = (a.end ≤ b.start) ⊎ (b.end ≤ a.start)

-- the tokens and comments are those of the text, wherever a `#` begins a comment
abbrev pub LexesSomehow : (text : List ℕ) → (tokens : List Token) → (comments : List Comment) → Type 0
LexesSomehow text tokens comments = (hashes : Hashes) × LexesWith hashes text tokens comments

-- the tokens and comments are those of the text
pub record IsLexed (text : List ℕ) (tokens : List Token) (comments : List Comment) : Type 0 where
  pub lexes : LexesSomehow text tokens comments
  pub token_parts : All (λ t. IsPart text t.span) tokens
  pub spelled : All (λ t. Spells t.kind (part_of text t.span)) tokens
  pub comment_parts : All (λ c. IsPart text c.span) comments
  pub comments_spelled : All (λ c. IsComment c.kind (part_of text c.span) (drop c.span.end text)) comments
  pub tokens_in_order : AreInOrder 0 (map (λ t. t.span) tokens)
  pub comments_in_order : AreInOrder 0 (map (λ c. c.span) comments)
  pub apart : All (λ t. All (λ c. AreApart t.span c.span) comments) tokens
