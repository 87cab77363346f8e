-- How many comments end on lines before that of an offset.
use Rattle.std.proofs.Common.{◌≡◌, ◌∙◌, sym, subst, ℕ, ◌+◌, ◌-◌, ◌<◌, ◌≤◌, ◌⊎◌, inl, inr, Bool, true, false}
use Rattle.std.proofs.Common.{List, length, get_or, arith}
use Rattle.std.specs.Prelude.{◌↔◌, IsTrue}
use Rattle.std.specs.List.Sorted.{IsPartitionPoint}
use Rattle.std.proofs.lemmas.Bool.{false≢true}
use Rattle.std.proofs.lemmas.List.{get_or_default}
use Rattle.proto_lex.proofs.PositionLineStartLemmas.{more_lines as lines_rise}
use Rattle.proto_lex.specs.declared.token.Comment.{Comment}
use Rattle.proto_lex.specs.Lexed.{Lexed}
use Rattle.proto_lex.specs.Position.{line_of}
use Rattle.proto_decl.proofs.LayoutLineLemmas.{behind_place, ends_rise}
use Rattle.proto_decl.proofs.CommentLeadingLemmas.{CommentsInOrder, EndAbove}

-- no comment from this one on ends on a line before that of the offset
abbrev pub NoneAbove : (lexed : Lexed) (offset count : ℕ) → Type 0
NoneAbove lexed offset count = (k : ℕ) (d : Comment) → count ≤ k → k < length lexed.comments
    → line_of lexed.text offset ≤ line_of lexed.text (get_or lexed.comments k d).span.end

module _ (lexed : Lexed) (offset : ℕ) (ordered : CommentsInOrder lexed.comments) (count : ℕ) where
  -- those that begin at the offset or behind it
  pub none_behind : IsPartitionPoint (λ (c : Comment). c.span.start < offset)
      (λ (c : Comment). offset ≤ c.span.start) lexed.comments count
      → NoneAbove lexed offset count
  none_behind parted k d low high =
      let filled = (behind_place (λ (c : Comment). c.span) 0 k d lexed.comments ordered high).1 in
      lines_rise lexed.text _ _ (omega (arith, parted.1 k d low high, filled))

  pub above_by_start : count ≤ 0 → NoneAbove lexed offset count → EndAbove lexed (line_of lexed.text offset) 0
  above_by_start none behind =
      (λ k d low high. absurd (omega arith), λ k d low high. behind k d (omega arith) high)

  -- what the test of the code says of the last one that isn't known to end there, in the comments that the call gave
  module _ (some : 0 < count) (within : count ≤ length lexed.comments) (behind : NoneAbove lexed offset count)
      (comments : List Comment) (same : comments ≡ lexed.comments) (d : Comment) (later : Bool)
      (says : IsTrue later
      ↔ (line_of lexed.text (get_or comments (count - 1) d).span.end < line_of lexed.text offset)) where
    last : (e : Comment) → get_or lexed.comments (count - 1) d ≡ get_or lexed.comments (count - 1) e
    last e = get_or_default lexed.comments (count - 1) d e (omega arith)

    said : IsTrue later
        ↔ (line_of lexed.text (get_or lexed.comments (count - 1) d).span.end < line_of lexed.text offset)
    said = rw same at says

    pub above_by_later : later ≡ true → EndAbove lexed (line_of lexed.text offset) count
    above_by_later is = (
      λ k e low high.
          let less = subst (λ (c : Comment). line_of lexed.text c.span.end < line_of lexed.text offset) (last e)
          (said.0 is) in
          let rises = lines_rise lexed.text _ _
          (ends_rise (λ (c : Comment). c.span) 0 k (count - 1) e lexed.comments ordered (omega arith) (omega arith)) in
          omega (arith, less, rises),
      behind,
    )

    one_fewer : (k : ℕ) (e : Comment) → k < length lexed.comments → (k + 1 ≡ count) ⊎ (count ≤ k) → later ≡ false
        → line_of lexed.text offset ≤ line_of lexed.text (get_or lexed.comments k e).span.end
    one_fewer k e high (inl at) not =
        let is : count - 1 ≡ k = omega arith in
        let no_less : line_of lexed.text (get_or lexed.comments (count - 1) d).span.end < line_of lexed.text offset
        → ⊥ =
        λ less. false≢true (sym not ∙ said.1 less) in
        let here : line_of lexed.text offset
        ≤ line_of lexed.text (get_or lexed.comments (count - 1) d).span.end = omega (arith, no_less) in
        subst (λ (i : ℕ). line_of lexed.text offset ≤ line_of lexed.text (get_or lexed.comments i e).span.end) is
        (subst (λ (c : Comment). line_of lexed.text offset ≤ line_of lexed.text c.span.end) (last e) here)
    one_fewer k e high (inr further) not = behind k e further high

    pub none_before : later ≡ false → NoneAbove lexed offset (count - 1)
    none_before not k e low high = one_fewer k e high (grind arith) not
