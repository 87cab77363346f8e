-- The extents of details begin and end between characters.
use Rattle.std.proofs.Common.{◌≡◌, sym, subst, ℕ, ◌+◌, Bool, true, false, Option, Some, List, [], ◌∷◌, ◌++◌, map}
use Rattle.std.specs.List.{All, slice_get}
use Rattle.std.specs.Str.{IsCharBoundary}
use Rattle.std.proofs.lemmas.List.Elements.{All-nil, All-cons, All-head}
use Rattle.std.proofs.lemmas.Option.{get_or_from_slice_get, slice_get_within}
use Rattle.proto_lex.specs.declared.span.Span.{Span}
use Rattle.proto_lex.specs.declared.token.Token.{Token}
use Rattle.proto_lex.specs.declared.token.Comment.{Comment}
use Rattle.proto_lex.specs.Lexed.{Lexed, IsLexed, IsPart}
use Rattle.proto_parse.specs.tree.File.{File}
use Rattle.proto_parse.proofs.SplitLemmas.{all_right}
use Rattle.proto_decl.specs.Comments.{AreLongestLeading}
use Rattle.proto_decl.specs.Declares.{outlines_of}
use Rattle.proto_decl.specs.Detailed.{IsDetail, AreDetailsOf}
use Rattle.proto_decl.specs.Extents.{BeginsAt, IsEnd}
use Rattle.proto_decl.specs.Extents.BeginsAt.{at_comment, at_token}
use Rattle.proto_decl.specs.Facts.{AreDetailsIf, extents_of}
use Rattle.proto_decl.specs.Laws.{IsWhole}
use Rattle.proto_decl.specs.Signatures.{IsTokenAt}
use Rattle.proto_decl.specs.declared.declaration.Outline.{Outline}
use Rattle.proto_decl.specs.declared.detail.Detail.{Detail}

module _ (lexed : Lexed) (is : IsLexed lexed.text lexed.tokens lexed.comments) where
  token_part : (index : ℕ) (t : Token) → slice_get lexed.tokens index ≡ Some t → IsPart lexed.text t.span
  token_part index t listed =
      subst (λ (x : Token). IsPart lexed.text x.span) (get_or_from_slice_get lexed.tokens index t t listed)
      (is.token_parts index t (slice_get_within lexed.tokens index t listed))

  at_part : (span : Span) (index : ℕ) → IsTokenAt lexed span index → IsPart lexed.text span
  at_part span index at = subst (IsPart lexed.text) at.at (token_part index at.token at.listed)

  comment_part : (line : ℕ) (comment : Comment) (others : List Comment)
      → AreLongestLeading lexed line (comment ∷ others) → IsPart lexed.text comment.span
  comment_part line comment others longest =
      let P : Comment → Type 0 = λ c. IsPart lexed.text c.span in
      let leads = longest.leading in
      All-head P comment (others ++ leads.behind)
      (all_right P leads.before (comment ∷ (others ++ leads.behind))
      (subst (λ (cs : List Comment). All P cs) leads.consecutive is.comment_parts))

  begins_whole : (first : Span) (index : ℕ) → IsTokenAt lexed first index → {start : ℕ} → BeginsAt lexed first start
      → IsCharBoundary lexed.text start
  begins_whole first index at (at_comment {comment = comment} {others = others} f longest) =
      (comment_part _ comment others longest).starts_whole
  begins_whole first index at (at_token lacks) = (at_part first index at).starts_whole

  ends_whole : (closing : Span) (end : ℕ) → IsEnd lexed closing end → IsCharBoundary lexed.text end
  ends_whole closing end e =
      let from = e.end_from in
      subst (IsCharBoundary lexed.text) (sym from.ends)
      (token_part (e.index + from.count) from.last from.listed).ends_whole

  one_whole : (outline : Outline) (detail : Detail) → IsDetail lexed outline.heading detail
      → IsWhole lexed.text detail.extent
  one_whole outline detail d = record {
    starts = begins_whole outline.heading.first d.signature.index d.signature.begins d.extent.begins;
    ends = ends_whole outline.heading.closing detail.extent.end d.extent.ends;
  }

  all_whole : (outlines : List Outline) (details : List Detail) → AreDetailsOf lexed outlines details
      → All (IsWhole lexed.text) (map (λ (detail : Detail). detail.extent) details)
  all_whole [] [] a = All-nil (IsWhole lexed.text)
  all_whole [] (d ∷ ds) a = absurd a
  all_whole (o ∷ os) [] a = absurd a
  all_whole (o ∷ os) (d ∷ ds) a =
      All-cons (IsWhole lexed.text) d.extent (map (λ (detail : Detail). detail.extent) ds) (one_whole o d a.0)
      (all_whole os ds a.1)

  -- those that are asked for
  pub extents_whole : (asked : Bool) (file : File) (details : Option (List Detail))
      → AreDetailsIf asked lexed file details → All (IsWhole lexed.text) (extents_of details)
  extents_whole false file details none =
      subst (λ (ds : Option (List Detail)). All (IsWhole lexed.text) (extents_of ds)) (sym none)
      (All-nil (IsWhole lexed.text))
  extents_whole true file details some =
      subst (λ (ds : Option (List Detail)). All (IsWhole lexed.text) (extents_of ds)) (sym some.1)
      (all_whole (outlines_of lexed.text file) some.0 some.2)
