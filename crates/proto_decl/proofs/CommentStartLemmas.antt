-- Where a declaration begins, with the comments that lead it.
use Rattle.std.proofs.Common.{◌<◌, ◌≤◌, List, [], ◌∷◌, length, get_or, arith}
use Rattle.proto_lex.specs.Lexed.{Lexed}
use Rattle.proto_lex.specs.declared.span.Span.{Span}
use Rattle.proto_lex.specs.declared.token.Comment.{Comment}
use Rattle.proto_decl.specs.Comments.{first_line, IsFirstOnLine, AreLongestLeading}
use Rattle.proto_decl.specs.Extents.{BeginsAt}
use Rattle.proto_decl.specs.Extents.BeginsAt.{at_comment, at_token}

module _ (lexed : Lexed) (first : Span) where
  -- with the first of some comments,
  pub begins_at_first : (comments : List Comment) (d : Comment) → IsFirstOnLine lexed first
      → AreLongestLeading lexed (first_line lexed first) comments → 1 ≤ length comments
      → BeginsAt lexed first (get_or comments 0 d).span.start
  begins_at_first [] d f longest some = absurd (omega (arith, some))
  begins_at_first (comment ∷ others) d f longest some = at_comment f longest

  -- with its token if there are none,
  pub begins_at_token : (comments : List Comment) → AreLongestLeading lexed (first_line lexed first) comments
      → length comments < 1 → BeginsAt lexed first first.start
  begins_at_token comments longest none =
      at_token (λ comment others f other. omega (arith, none, longest.longest (comment ∷ others) other.leading))

  -- and if it isn't the first on its line
  pub begins_unled : (IsFirstOnLine lexed first → ⊥) → BeginsAt lexed first first.start
  begins_unled behind = at_token (λ comment others f other. absurd (behind f))
