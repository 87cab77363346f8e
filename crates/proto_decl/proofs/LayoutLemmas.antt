-- How tokens in order stand on the lines of a text.
use Rattle.std.proofs.Common.{◌≡◌, ℕ, ◌-◌, ◌<◌, ◌≤◌, List, length, get_or, map, leb, arith, inl, inr, subst}
use Rattle.std.proofs.Common.{IsTrue, ◌↔◌}
use Rattle.std.specs.Prelude.{◌↔◌, ◌⊎◌, IsTrue}
use Rattle.std.specs.List.{All}
use Rattle.std.specs.List.Sorted.{IsPartitionPoint}
use Rattle.proto_lex.proofs.PositionLineStartLemmas.{more_lines as lines_rise}
use Rattle.proto_lex.specs.declared.span.Span.{Span}
use Rattle.proto_lex.specs.declared.token.Token.{Token}
use Rattle.proto_lex.specs.Position.{line_of}
use Rattle.proto_lex.specs.Lexed.{Lexed, AreInOrder, AreApart}
use Rattle.proto_lex.specs.CommentTexts.{Touches, StandsAlone, NoneBetween}
use Rattle.proto_decl.specs.Comments.{IsFirstOnLine, first_line, last_line}
use Rattle.proto_decl.proofs.LayoutLineLemmas.{behind_place, starts_rise, ends_rise, IsAt, held, at_any, at_index}
use Rattle.proto_decl.proofs.LayoutLineLemmas.{no_more-test}

-- so many tokens begin before an offset, or end by it
abbrev pub HaveBegun : List Token → (offset count : ℕ) → Type 0
HaveBegun tokens offset count =
    IsPartitionPoint (λ (t : Token). t.span.start < offset) (λ (t : Token). offset ≤ t.span.start) tokens count

abbrev pub HaveEnded : List Token → (offset count : ℕ) → Type 0
HaveEnded tokens offset count =
    IsPartitionPoint (λ (t : Token). t.span.end ≤ offset) (λ (t : Token). offset < t.span.end) tokens count

abbrev pub TokensInOrder : List Token → Type 0
TokensInOrder tokens = AreInOrder 0 (map (λ (t : Token). t.span) tokens)

-- a later token ends no earlier, and begins no earlier
pub ends_by : (tokens : List Token) (k i : ℕ) (d t : Token) → TokensInOrder tokens → k ≤ i → IsAt tokens i t
    → (get_or tokens k d).span.end ≤ t.span.end
ends_by tokens k i d t ordered le at =
    let same = at_any tokens i t d at in
    subst (λ (x : Token). (get_or tokens k d).span.end ≤ x.span.end) same
    (ends_rise (λ (x : Token). x.span) 0 k i d tokens ordered le at.within)

begins_from : (tokens : List Token) (i k : ℕ) (t d : Token) → TokensInOrder tokens → i ≤ k → k < length tokens
    → IsAt tokens i t → t.span.start ≤ (get_or tokens k d).span.start
begins_from tokens i k t d ordered le h at =
    let same = at_any tokens i t d at in
    subst (λ (x : Token). x.span.start ≤ (get_or tokens k d).span.start) same
    (starts_rise (λ (x : Token). x.span) 0 i k d tokens ordered le h)

-- first on its line

pub first_less : (lexed : Lexed) (first : Span) (n : ℕ) (last : Token) → TokensInOrder lexed.tokens
    → HaveBegun lexed.tokens first.start n → IsAt lexed.tokens (n - 1) last
    → last_line lexed last.span < first_line lexed first → IsFirstOnLine lexed first
first_less lexed first n last ordered p at less k d h before touches =
    let late : n ≤ k → ⊥ = λ le. omega (arith, p.1 k d le h) in
    let ends = ends_by lexed.tokens k (n - 1) d last ordered (omega arith) at in
    omega (arith, lines_rise lexed.text _ _ ends, touches.1)

pub less_first : (lexed : Lexed) (first : Span) (n : ℕ) (last : Token) → HaveBegun lexed.tokens first.start n → 0 < n
    → IsAt lexed.tokens (n - 1) last
    → IsFirstOnLine lexed first → last_line lexed last.span < first_line lexed first
less_first lexed first n last p some at all =
    let before : last.span.start < first.start =
    held (λ t. t.span.start < first.start) lexed.tokens (n - 1) last at
    (p.0 (n - 1) last (omega arith) (omega arith)) in
    let here = held (λ t. t.span.start < first.start → Touches lexed.text t.span (first_line lexed first) → ⊥)
    lexed.tokens (n - 1) last at (all (n - 1) last at.within) in
    let not_behind : first_line lexed first ≤ last_line lexed last.span → ⊥ =
    λ le. here before (lines_rise lexed.text _ _ (omega arith), le) in
    omega (arith, not_behind)

-- none of those that end by an offset, and none of those that begin at it or behind it, touch its line
abbrev pub IsClearBefore : (text : List ℕ) → List Token → (offset : ℕ) → Type 0
IsClearBefore text tokens offset =
    All (λ (t : Token). t.span.end ≤ offset → Touches text t.span (line_of text offset) → ⊥) tokens

abbrev pub IsClearBehind : (text : List ℕ) → List Token → (offset : ℕ) → Type 0
IsClearBehind text tokens offset =
    All (λ (t : Token). offset ≤ t.span.start → Touches text t.span (line_of text offset) → ⊥) tokens

pub filled : (tokens : List Token) (i : ℕ) (t : Token) → TokensInOrder tokens → IsAt tokens i t
    → t.span.start < t.span.end
filled tokens i t ordered at =
    held (λ x. x.span.start < x.span.end) tokens i t at
    (behind_place (λ (x : Token). x.span) 0 i t tokens ordered at.within).1

-- none between two offsets

side : (tokens : List Token) (from upto n k : ℕ) (next d : Token) → TokensInOrder tokens → HaveEnded tokens from n
    → IsAt tokens n next → upto ≤ next.span.start → k < length tokens → (k < n) ⊎ (n ≤ k)
    → ((get_or tokens k d).span.end ≤ from) ⊎ (upto ≤ (get_or tokens k d).span.start)
side tokens from upto n k next d ordered p at le h (inl before) = inl (p.0 k d (omega arith) before)
side tokens from upto n k next d ordered p at le h (inr behind) =
    inr (omega (arith, begins_from tokens n k next d ordered behind h at))

pub before_or_not : (k n : ℕ) → (k < n) ⊎ (n ≤ k)
before_or_not k n = grind arith

behind_from : (from upto : ℕ) (t : Token) → from < t.span.end → (t.span.end ≤ from) ⊎ (upto ≤ t.span.start)
    → upto ≤ t.span.start
behind_from from upto t late (inl early) = absurd (omega arith)
behind_from from upto t late (inr behind) = behind

between_by_next : (tokens : List Token) (from upto n : ℕ) (next : Token) → TokensInOrder tokens
    → HaveEnded tokens from n → IsAt tokens n next → (upto ≤ next.span.start) ↔ NoneBetween tokens from upto
between_by_next tokens from upto n next ordered p at = (
  λ le k d h. side tokens from upto n k next d ordered p at le h (before_or_not k n),
  λ all. held (λ t. upto ≤ t.span.start) tokens n next at
      (behind_from from upto (get_or tokens n next) (p.1 n next (omega arith) at.within) (all n next at.within)),
)

-- alone on its lines

alone : (text : List ℕ) (comment t : Span) (line : ℕ) → AreApart t comment
    → (t.end ≤ comment.start → Touches text t (line_of text comment.start) → ⊥)
    → (comment.end ≤ t.start → Touches text t (line_of text comment.end) → ⊥)
    → Touches text comment line → Touches text t line → ⊥
alone text comment t line (inl before) clear_before clear_behind on_comment on_token =
    let rises = lines_rise text t.end comment.start before in
    clear_before before (
      omega (arith, on_comment.0, on_comment.1, on_token.0, on_token.1),
      omega (arith, on_comment.0, on_token.1),
    )
alone text comment t line (inr behind) clear_before clear_behind on_comment on_token =
    let rises = lines_rise text comment.end t.start behind in
    clear_behind behind (
      omega (arith, on_comment.1, on_token.0),
      omega (arith, on_comment.0, on_comment.1, on_token.0, on_token.1),
    )

pub alone_by_both : (text : List ℕ) (tokens : List Token) (comment : Span) → All (λ t. AreApart t.span comment) tokens
    → IsClearBefore text tokens comment.start → IsClearBehind text tokens comment.end → StandsAlone text tokens comment
alone_by_both text tokens comment apart before behind =
    λ k d h line. alone text comment (get_or tokens k d).span line (apart k d h) (before k d h) (behind k d h)

-- what the tests of the code say: of what the searches found, in the text and tokens that the calls gave

both : {P Q R : Type 0} → P ↔ Q → Q ↔ R → P ↔ R
both p q = (λ x. q.0 (p.0 x), λ x. p.1 (q.1 x))

pub between-test : (tokens tokens' : List Token) (from upto n : ℕ) (d : Token) → tokens' ≡ tokens → TokensInOrder tokens
    → HaveEnded tokens from n → n < length tokens
    → IsTrue (leb upto (get_or tokens' n d).span.start) ↔ NoneBetween tokens from upto
between-test tokens tokens' from upto n d same ordered p h =
    rw same (both (no_more-test upto (get_or tokens n d).span.start)
    (between_by_next tokens from upto n (get_or tokens n d) ordered p (at_index tokens n d h)))
