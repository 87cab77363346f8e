-- The lines above a token that are free of other tokens, and the comments on them.
use Rattle.std.proofs.Common.{◌≡◌, sym, ℕ, ◌+◌, ◌-◌, ◌<◌, ◌≤◌, ◌⊎◌, inl, inr, Bool, false, IsTrue, ◌↔◌, List}
use Rattle.std.proofs.Common.{Option, Some, None, MatchOption, get_or, arith}
use Rattle.std.specs.List.{All}
use Rattle.std.proofs.lemmas.Bool.{false≢true}
use Rattle.std.proofs.lemmas.List.Elements.{All-contains}
use Rattle.proto_lex.proofs.PositionLineStartLemmas.{more_lines as lines_rise}
use Rattle.proto_lex.specs.declared.span.Span.{Span}
use Rattle.proto_lex.specs.declared.token.Token.{Token}
use Rattle.proto_lex.specs.Position.{line_of}
use Rattle.proto_lex.specs.Lexed.{Lexed, AreApart}
use Rattle.proto_lex.specs.CommentTexts.{Touches, StandsAlone}
use Rattle.proto_decl.specs.Comments.{IsFirstOnLine}
use Rattle.proto_decl.specs.Layout.{AreBegun, IsNextStart, IsFreeFrom}
use Rattle.proto_decl.specs.declared.layout.Begun.{Begun}
use Rattle.proto_decl.proofs.LayoutLineLemmas.{IsAt, at_index}
use Rattle.proto_decl.proofs.LayoutLemmas.{TokensInOrder, ends_by, filled, first_less, less_first, alone_by_both}
use Rattle.proto_decl.proofs.LayoutLemmas.{IsClearBefore, IsClearBehind, before_or_not}

-- no token begins before the first one
pub free_at_start : (lexed : Lexed) (first : Span) (begun : Begun) → AreBegun lexed first.start begun → begun.tokens ≡ 0
    → IsFirstOnLine lexed first × IsFreeFrom lexed first.start 0
free_at_start lexed first begun b none = (
  λ k d h before touches. omega (arith, none, b.tokens.1 k d (omega arith) h),
  record {
    within = omega arith;
    starts = λ place h. absurd (omega arith);
    free = λ k d h before. absurd (omega (arith, none, b.tokens.1 k d (omega arith) h));
    behind = λ some. absurd (omega arith);
  },
)

-- what is found behind the last token that begins before it, in the tokens and the text that the calls gave
module _ (lexed : Lexed) (first : Span) (begun : Begun) (b : AreBegun lexed first.start begun)
    (some : 0 < begun.tokens) (tokens : List Token) (same : tokens ≡ lexed.tokens)
    (ordered : TokensInOrder lexed.tokens)
    (text : List ℕ) (same_text : text ≡ lexed.text) (d : Token) where
  at : IsAt lexed.tokens (begun.tokens - 1) (get_or lexed.tokens (begun.tokens - 1) d)
  at = at_index lexed.tokens (begun.tokens - 1) d (omega (arith, b.tokens_within))

  not_first : line_of text first.start ≤ line_of text (get_or tokens (begun.tokens - 1) d).span.end
      → IsFirstOnLine lexed first → ⊥
  not_first le is =
      let le' = rw (same, same_text) at le in
      omega (
        arith,
        le',
        less_first lexed first begun.tokens (get_or lexed.tokens (begun.tokens - 1) d) b.tokens some at is,
      )

  first_behind : (from : ℕ) → IsNextStart text (get_or tokens (begun.tokens - 1) d).span.end first.start from
      → IsFirstOnLine lexed first × IsFreeFrom lexed first.start from
  first_behind from next' =
      let next : IsNextStart lexed.text (get_or lexed.tokens (begun.tokens - 1) d).span.end first.start from =
      rw (same, same_text) at next' in
      let rises = lines_rise lexed.text from first.start next.within in (
        first_less lexed first begun.tokens (get_or lexed.tokens (begun.tokens - 1) d) ordered b.tokens at
            (omega (arith, next.one_further, rises)),
        record {
          within = next.within;
          starts = λ place h. omega (arith, next.one_further, next.first place h);
          free = λ k e h before.
              let late : begun.tokens ≤ k → ⊥ = λ le. omega (arith, b.tokens.1 k e le h) in
              let ends = ends_by lexed.tokens k (begun.tokens - 1) e (get_or lexed.tokens (begun.tokens - 1) d) ordered
              (omega arith) at in
              omega (arith, lines_rise lexed.text _ _ ends, next.one_further);
          behind = λ further. record {
            token = get_or lexed.tokens (begun.tokens - 1) d;
            listed = (begun.tokens - 1, at.within, sym at.is);
            some = omega (
              arith,
              filled lexed.tokens (begun.tokens - 1) (get_or lexed.tokens (begun.tokens - 1) d) ordered at,
            );
            above = sym next.one_further;
          };
        },
      )

  pub by_next : (start : Option ℕ)
      → MatchOption start (line_of text first.start ≤ line_of text (get_or tokens (begun.tokens - 1) d).span.end)
      (IsNextStart text (get_or tokens (begun.tokens - 1) d).span.end first.start)
      → MatchOption start (IsFirstOnLine lexed first → ⊥)
      (λ from. IsFirstOnLine lexed first × IsFreeFrom lexed first.start from)
  by_next None none = not_first none
  by_next (Some from) next = first_behind from next

-- whether a comment above the token leads
module _ (lexed : Lexed) (comment : Span) (from next : ℕ) (some : comment.start ≤ comment.end)
    (apart : All (λ (t : Token). AreApart t.span comment) lexed.tokens) (le : from ≤ next) where
  -- it doesn't if it begins on an earlier line: then the token on the line above is on a line with it or between
  on_token : (t : Span) → t.start ≤ t.end → line_of lexed.text t.end + 1 ≡ line_of lexed.text from
      → line_of lexed.text comment.start < line_of lexed.text from
      → line_of lexed.text next ≤ line_of lexed.text comment.end + 1
      → ((line : ℕ) → Touches lexed.text comment line → Touches lexed.text t line → ⊥) → AreApart t comment → ⊥
  on_token t whole above early near alone (inl before) =
      let rises = lines_rise lexed.text t.end comment.start before in
      alone (line_of lexed.text t.end) (
        omega (arith, above, early),
        omega (arith, rises, lines_rise lexed.text comment.start comment.end some),
      ) (lines_rise lexed.text t.start t.end whole, omega arith)
  on_token t whole above early near alone (inr behind) =
      let rises = lines_rise lexed.text comment.end t.start behind in
      let further = lines_rise lexed.text from next le in
      alone (line_of lexed.text comment.end) (lines_rise lexed.text comment.start comment.end some, omega arith) (
        omega (arith, near, further, above, lines_rise lexed.text t.start t.end whole),
        omega (arith, rises, lines_rise lexed.text t.start t.end whole),
      )

  blocked : comment.start < from → (offset : ℕ) → IsFreeFrom lexed offset from
      → line_of lexed.text next ≤ line_of lexed.text comment.end + 1 → StandsAlone lexed.text lexed.tokens comment → ⊥
  blocked less offset free near alone =
      let b = free.behind (omega (arith, less)) in
      on_token b.token.span b.some b.above (free.starts comment.start less) near
      (All-contains
      (λ (t : Token). (line : ℕ) → Touches lexed.text comment line → Touches lexed.text t.span line → ⊥)
      lexed.tokens b.token alone b.listed)
      (All-contains (λ (t : Token). AreApart t.span comment) lexed.tokens b.token apart b.listed)

  pub not_leading : comment.start < from → (offset : ℕ) → IsFreeFrom lexed offset from
      → IsTrue false
      ↔ ((line_of lexed.text next ≤ line_of lexed.text comment.end + 1) × StandsAlone lexed.text lexed.tokens comment)
  not_leading less offset free =
      ((λ e. absurd (false≢true e)), (λ h. absurd (blocked less offset free h.0 h.1)))

  -- and stands alone if it begins on one of these lines
  module _ (not_less : from ≤ comment.start) (offset : ℕ) (free : IsFreeFrom lexed offset from)
      (above : line_of lexed.text comment.end < line_of lexed.text offset) where
    begins : line_of lexed.text from ≤ line_of lexed.text comment.start
    begins = lines_rise lexed.text from comment.start not_less

    ends : line_of lexed.text comment.start ≤ line_of lexed.text comment.end
    ends = lines_rise lexed.text comment.start comment.end some

    off_start : (t : Span) → (t.start < offset → line_of lexed.text t.end < line_of lexed.text from)
        → (t.start < offset) ⊎ (offset ≤ t.start) → Touches lexed.text t (line_of lexed.text comment.start) → ⊥
    off_start t earlier (inl early) touches = omega (arith, earlier early, begins, touches.1)
    off_start t earlier (inr late) touches =
        omega (arith, lines_rise lexed.text offset t.start late, touches.0, ends, above)

    off_end : (t : Span) → (t.start < offset → line_of lexed.text t.end < line_of lexed.text from)
        → (t.start < offset) ⊎ (offset ≤ t.start) → Touches lexed.text t (line_of lexed.text comment.end) → ⊥
    off_end t earlier (inl early) touches = omega (arith, earlier early, begins, ends, touches.1)
    off_end t earlier (inr late) touches =
        omega (arith, lines_rise lexed.text offset t.start late, touches.0, above)

    before : IsClearBefore lexed.text lexed.tokens comment.start
    before k d h ended touches =
        off_start (get_or lexed.tokens k d).span (free.free k d h)
        (before_or_not (get_or lexed.tokens k d).span.start offset) touches

    behind : IsClearBehind lexed.text lexed.tokens comment.end
    behind k d h begun touches =
        off_end (get_or lexed.tokens k d).span (free.free k d h)
        (before_or_not (get_or lexed.tokens k d).span.start offset) touches

    is_alone : StandsAlone lexed.text lexed.tokens comment
    is_alone = alone_by_both lexed.text lexed.tokens comment apart before behind

  -- so that it leads if it is near enough, which is seen in the text that the call gave
  pub leading : from ≤ comment.start → (text : List ℕ) → text ≡ lexed.text → (r : Bool)
      → IsTrue r ↔ (line_of text next ≤ line_of text comment.end + 1)
      → (offset : ℕ) → IsFreeFrom lexed offset from → line_of lexed.text comment.end < line_of lexed.text offset
      → IsTrue r
      ↔ ((line_of lexed.text next ≤ line_of lexed.text comment.end + 1) × StandsAlone lexed.text lexed.tokens comment)
  leading not_less text same r says offset free above =
      let says' = rw same at says in
      ((λ e. (says'.0 e, is_alone not_less offset free above)), (λ h. says'.1 h.0))
