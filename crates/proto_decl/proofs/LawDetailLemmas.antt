-- A file's details are the only ones.
use Rattle.std.proofs.Common.{◌≡◌, ◌∙◌, sym, ap, refl, subst, ℕ, ◌+◌, ◌<◌, ◌⊎◌, inl, inr, Option, Some, None, List}
use Rattle.std.proofs.Common.{[], ◌∷◌, ◌++◌, length, get_or, take, drop, arith}
use Rattle.std.specs.List.{AllZip, slice_get}
use Rattle.std.proofs.lemmas.Option.{get_or_from_slice_get, slice_get_within}
use Rattle.proto_lex.specs.declared.span.Span.{Span}
use Rattle.proto_lex.specs.declared.token.Token.{Token}
use Rattle.proto_lex.specs.declared.token.Comment.{Comment}
use Rattle.proto_lex.specs.Lexed.{Lexed, part_of}
use Rattle.proto_decl.specs.Comments.{first_line}
use Rattle.proto_decl.specs.Signatures.{IsTokenAt, IsSignatureText, spelled_behind, up_to_ending}
use Rattle.proto_decl.specs.Extents.{AreOpen, IsLastAt, IsEndFrom, IsEnd, BeginsAt}
use Rattle.proto_decl.specs.Extents.BeginsAt.{at_comment, at_token}
use Rattle.proto_decl.specs.Detailed.{IsDetail}
use Rattle.proto_decl.specs.declared.declaration.Outline.{Outline}
use Rattle.proto_decl.specs.declared.detail.Detail.{Detail}
use Rattle.proto_decl.proofs.CommentLeadingLemmas.{CommentsInOrder, one_longest}
use Rattle.proto_decl.proofs.LayoutLemmas.{TokensInOrder}
use Rattle.proto_decl.proofs.LayoutLineLemmas.{behind_place, ends_before}

-- one token of all is the last
shorter : (tokens : List Token) (fewer more : ℕ)
    → (AreOpen (take (fewer + 1) tokens) → ⊥) ⊎ (fewer + 1 ≡ length tokens) → IsLastAt tokens more → fewer < more → ⊥
shorter tokens fewer more (inl closed) last less = closed (last.goes_on (fewer + 1) (omega arith) (omega arith))
shorter tokens fewer more (inr whole) last less = omega (arith, whole, less, last.within)

one_count : (tokens : List Token) (count other : ℕ) → IsLastAt tokens count → IsLastAt tokens other → count ≡ other
one_count tokens count other a b =
    let not_less : count < other → ⊥ = shorter tokens count other a.closed b in
    let not_more : other < count → ⊥ = shorter tokens other count b.closed a in
    omega (arith, not_less, not_more)

-- where a token that may be there ends, and where the first of comments begins
abbrev end_in : Option Token → ℕ
end_in None = 0
end_in (Some token) = token.span.end

abbrev start_in : List Comment → ℕ
start_in [] = 0
start_in (comment ∷ others) = comment.span.start

module _ (lexed : Lexed) (tokens_ordered : TokensInOrder lexed.tokens) (ordered : CommentsInOrder lexed.comments) where
  -- no two tokens are at one span
  apart : (span : Span) (i j : ℕ) → IsTokenAt lexed span i → IsTokenAt lexed span j → i < j → ⊥
  apart span i j a b less =
      let first = get_or_from_slice_get lexed.tokens i a.token a.token a.listed in
      let second = get_or_from_slice_get lexed.tokens j b.token a.token b.listed in
      let before = ends_before (λ (x : Token). x.span) 0 i j a.token lexed.tokens tokens_ordered less
      (slice_get_within lexed.tokens j b.token b.listed) in
      let whole = (behind_place (λ (x : Token). x.span) 0 i a.token lexed.tokens tokens_ordered
      (slice_get_within lexed.tokens i a.token a.listed)).1 in
      let same : (get_or lexed.tokens i a.token).span.start ≡ (get_or lexed.tokens j a.token).span.start =
      ap (λ (x : Token). x.span.start) first
      ∙ (ap (λ (s : Span). s.start) (a.at ∙ sym b.at) ∙ sym (ap (λ (x : Token). x.span.start) second)) in
      omega (arith, before, whole, same)

  one_index : (span : Span) (i j : ℕ) → IsTokenAt lexed span i → IsTokenAt lexed span j → i ≡ j
  one_index span i j a b =
      let not_less : i < j → ⊥ = apart span i j a b in
      let not_more : j < i → ⊥ = apart span j i b a in
      omega (arith, not_less, not_more)

  one_signature : (first : Span) (signature other : List ℕ) → IsSignatureText lexed first signature
      → IsSignatureText lexed first other → signature ≡ other
  one_signature first signature other a b =
      a.text
      ∙ (ap (λ (i : ℕ). part_of lexed.text first
      ++ spelled_behind lexed.text first (up_to_ending (drop (i + 1) lexed.tokens)))
      (one_index first a.index b.index a.begins b.begins)
      ∙ sym b.text)

  one_end_from : (index end other : ℕ) → IsEndFrom lexed index end → IsEndFrom lexed index other → end ≡ other
  one_end_from index end other a b =
      let count = one_count (drop index lexed.tokens) a.count b.count a.last_at b.last_at in
      let last : Some a.last ≡ Some b.last =
      sym a.listed ∙ (ap (λ (more : ℕ). slice_get lexed.tokens (index + more)) count ∙ b.listed) in
      a.ends ∙ (ap end_in last ∙ sym b.ends)

  one_end : (closing : Span) (end other : ℕ) → IsEnd lexed closing end → IsEnd lexed closing other → end ≡ other
  one_end closing end other a b =
      one_end_from b.index end other
      (subst (λ (i : ℕ). IsEndFrom lexed i end) (one_index closing a.index b.index a.closes b.closes) a.end_from)
      b.end_from

  one_start : (first : Span) {start other : ℕ} → BeginsAt lexed first start → BeginsAt lexed first other
      → start ≡ other
  one_start first (at_comment {comment = a} {others = more} f longest)
      (at_comment {comment = b} {others = further} g also) =
      ap start_in (one_longest lexed (first_line lexed first) ordered (a ∷ more) (b ∷ further) longest also)
  one_start first (at_comment {comment = a} {others = more} f longest) (at_token lacks) =
      absurd (lacks a more f longest)
  one_start first (at_token lacks) (at_comment {comment = b} {others = further} g also) =
      absurd (lacks b further g also)
  one_start first (at_token lacks) (at_token also) = refl

  one_detail : (outline : Outline) (detail other : Detail) → IsDetail lexed outline.heading detail
      → IsDetail lexed outline.heading other → detail ≡ other
  one_detail outline detail other a b =
      let signature = one_signature outline.heading.first detail.signature other.signature a.signature b.signature in
      let start = one_start outline.heading.first a.extent.begins b.extent.begins in
      let end = one_end outline.heading.closing detail.extent.end other.extent.end a.extent.ends b.extent.ends in
      λ i. record { signature = signature i; extent = record { start = start i; end = end i } }

  pub one_list_of_details : (outlines : List Outline) (details others : List Detail)
      → AllZip (λ outline detail. IsDetail lexed outline.heading detail) outlines details
      → AllZip (λ outline detail. IsDetail lexed outline.heading detail) outlines others → details ≡ others
  one_list_of_details [] [] [] a b = refl
  one_list_of_details [] [] (e ∷ es) a b = absurd b
  one_list_of_details [] (d ∷ ds) es a b = absurd a
  one_list_of_details (o ∷ os) [] es a b = absurd a
  one_list_of_details (o ∷ os) (d ∷ ds) [] a b = absurd b
  one_list_of_details (o ∷ os) (d ∷ ds) (e ∷ es) a b =
      λ i. one_detail o d e a.0 b.0 i ∷ one_list_of_details os ds es a.1 b.1 i
