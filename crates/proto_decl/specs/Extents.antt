-- Where a declaration is, with the comments directly above it and its body (the profile's).
use Rattle.std.specs.Prelude.{◌≡◌, ℕ, ◌+◌, ◌<◌, ◌≤◌, ◌⊎◌, List, ◌∷◌, length, take, drop, Some}
use Rattle.std.specs.List.{count_by, slice_get}
use Rattle.proto_lex.specs.Lexed.{Lexed}
use Rattle.proto_lex.specs.declared.span.Span.{Span}
use Rattle.proto_lex.specs.declared.token.Token.{Token}
use Rattle.proto_lex.specs.declared.token.Comment.{Comment}
use Rattle.proto_lex.specs.declared.token.TokenKind.{TokenKind}
use Rattle.proto_lex.specs.declared.token.TokenKind.TheVariants.{OpenBrace, CloseBrace}
use Rattle.proto_parse.specs.Terminal.{is_kind}
use Rattle.proto_parse.specs.tree.Heading.{Heading}
use Rattle.proto_decl.specs.Comments.{first_line, IsFirstOnLine, AreLongestLeading}
use Rattle.proto_decl.specs.Signatures.{IsTokenAt}

-- how many of the tokens are of a kind
abbrev pub count_of : TokenKind → List Token → ℕ
count_of kind tokens = count_by (λ t. is_kind kind t.kind) tokens

-- A `{` of the tokens isn't closed by a `}` of them.
abbrev pub AreOpen : List Token → Type 0
AreOpen tokens = count_of CloseBrace tokens < count_of OpenBrace tokens

-- The last of the tokens that a declaration's closing token begins, so many tokens behind it: the first with which all
-- is closed. A `;` is the last one itself, from a `{` on it is the `}` that closes it. In a file that has a tree there
-- is such a token. If there is none, it is the last one of all.
pub record IsLastAt (tokens : List Token) (count : ℕ) : Type 0 where
  pub within : count < length tokens
  pub goes_on : (fewer : ℕ) → 0 < fewer → fewer ≤ count → AreOpen (take fewer tokens)
  pub closed : (AreOpen (take (count + 1) tokens) → ⊥) ⊎ (count + 1 ≡ length tokens)

-- the end of the last of the tokens that the one with an index begins
pub record IsEndFrom (lexed : Lexed) (index end : ℕ) : Type 0 where
  pub count : ℕ
  pub last_at : IsLastAt (drop index lexed.tokens) count
  pub last : Token
  pub listed : slice_get lexed.tokens (index + count) ≡ Some last
  pub ends : end ≡ last.span.end

-- the end of the last token of a declaration with this closing token
pub record IsEnd (lexed : Lexed) (closing : Span) (end : ℕ) : Type 0 where
  pub index : ℕ
  pub closes : IsTokenAt lexed closing index
  pub end_from : IsEndFrom lexed index end

-- Where a declaration with this first token begins: where the first of its leading comments does, if it has any.
pub data BeginsAt (lexed : Lexed) (first : Span) : (start : ℕ) → Type 0 where
  at_comment : {comment : Comment} {others : List Comment} → IsFirstOnLine lexed first
      → AreLongestLeading lexed (first_line lexed first) (comment ∷ others) → BeginsAt lexed first comment.span.start
  at_token : ((comment : Comment) (others : List Comment) → IsFirstOnLine lexed first
      → AreLongestLeading lexed (first_line lexed first) (comment ∷ others) → ⊥)
      → BeginsAt lexed first first.start

-- From there up to the end of its last token. The rows, in a text that is one line each:
--   `// A book.` `message Book {` `}`     from the comment to the `}`
--   `// Apart.` `` `message Book {}`      from the word `message`: the comment isn't directly above
--   `string title = 1;  // Its title.`    from the word `string` to the `;`
--   `rpc Lend(Loan) returns (Receipt) { option deprecated = true; }`  from the word `rpc` to the `}`
pub record IsExtent (lexed : Lexed) (heading : Heading) (extent : Span) : Type 0 where
  pub begins : BeginsAt lexed heading.first extent.start
  pub ends : IsEnd lexed heading.closing extent.end
