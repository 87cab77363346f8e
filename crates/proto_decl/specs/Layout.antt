-- What the search for the comments above a declaration finds on the way.
use Rattle.std.specs.Prelude.{ℕ, ◌≡◌, ◌+◌, ◌<◌, ◌≤◌, List, length, All, Contains}
use Rattle.std.specs.List.Sorted.{IsPartitionPoint}
use Rattle.proto_lex.specs.Lexed.{Lexed}
use Rattle.proto_lex.specs.Position.{line_of}
use Rattle.proto_lex.specs.declared.token.Token.{Token}
use Rattle.proto_decl.specs.declared.layout.Begun.{Begun}

-- so many tokens and so many comments begin before an offset
pub record AreBegun (lexed : Lexed) (offset : ℕ) (begun : Begun) : Type 0 where
  pub tokens_within : begun.tokens ≤ length lexed.tokens
  pub tokens : IsPartitionPoint (λ t. t.span.start < offset) (λ t. offset ≤ t.span.start) lexed.tokens begun.tokens
  pub comments_within : begun.comments ≤ length lexed.comments
  pub comments : IsPartitionPoint
      (λ c. c.span.start < offset) (λ c. offset ≤ c.span.start) lexed.comments begun.comments

-- the line behind that of an offset starts here, by another offset
pub record IsNextStart (text : List ℕ) (from upto start : ℕ) : Type 0 where
  pub within : start ≤ upto
  pub one_further : line_of text start ≡ line_of text from + 1
  pub first : (place : ℕ) → place < start → line_of text place ≤ line_of text from

-- a token ends on the line above an offset
pub record IsBehindToken (lexed : Lexed) (from : ℕ) : Type 0 where
  pub token : Token
  pub listed : Contains lexed.tokens token
  pub some : token.span.start ≤ token.span.end
  pub above : line_of lexed.text token.span.end + 1 ≡ line_of lexed.text from

-- A line starts here on which no token is that begins before an offset, nor on those behind it. A token ends on the
-- line above, if there is one.
pub record IsFreeFrom (lexed : Lexed) (offset from : ℕ) : Type 0 where
  pub within : from ≤ offset
  pub starts : (place : ℕ) → place < from → line_of lexed.text place < line_of lexed.text from
  pub free : All (λ t. t.span.start < offset → line_of lexed.text t.span.end < line_of lexed.text from) lexed.tokens
  pub behind : 0 < from → IsBehindToken lexed from
