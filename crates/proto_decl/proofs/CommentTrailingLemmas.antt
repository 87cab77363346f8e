-- The comment that trails a declaration: the first one behind its closing token.
use Rattle.std.proofs.Common.{◌≡◌, ◌∙◌, sym, ap, subst, ℕ, ◌<◌, ◌≤◌, ◌↔◌, ◌⊎◌, inl, inr, Bool, true, false, IsTrue}
use Rattle.std.proofs.Common.{List, length, get_or, arith}
use Rattle.std.specs.List.Sorted.{IsPartitionPoint}
use Rattle.std.proofs.lemmas.List.{get_or_default}
use Rattle.std.proofs.lemmas.List.Elements.{All-contains}
use Rattle.proto_lex.specs.declared.span.Span.{Span}
use Rattle.proto_lex.specs.declared.token.Comment.{Comment}
use Rattle.proto_lex.specs.Lexed.{Lexed}
use Rattle.proto_lex.specs.Position.{line_of}
use Rattle.proto_lex.specs.CommentTexts.{NoneBetween}
use Rattle.proto_decl.specs.Comments.{first_line, last_line, IsTrailing}
use Rattle.proto_decl.proofs.LayoutLineLemmas.{starts_rise, behind_place, ends_before, IsAt, held, at_any, at_index}
use Rattle.proto_decl.proofs.CommentLeadingLemmas.{CommentsInOrder}

module _ (lexed : Lexed) (closing : Span) (n : ℕ) (x : Comment) (ordered : CommentsInOrder lexed.comments)
    (at : IsAt lexed.comments n x)
    (parted : IsPartitionPoint (λ (c : Comment). c.span.start < closing.end)
    (λ (c : Comment). closing.end ≤ c.span.start) lexed.comments n) where
  behind : closing.end ≤ x.span.start
  behind = held (λ c. closing.end ≤ c.span.start) lexed.comments n x at (parted.1 n x (omega arith) at.within)

  least : (k : ℕ) (d : Comment) → k < length lexed.comments → closing.end ≤ (get_or lexed.comments k d).span.start
      → x.span.start ≤ (get_or lexed.comments k d).span.start
  least k d h later =
      let late : k < n → ⊥ = λ early. omega (arith, parted.0 k d (omega arith) early) in
      subst (λ (c : Comment). c.span.start ≤ (get_or lexed.comments k d).span.start) (at_any lexed.comments n x d at)
      (starts_rise (λ (c : Comment). c.span) 0 n k d lexed.comments ordered (omega (arith, late)) h)

  same_start : (comment : Comment) → IsTrailing lexed closing comment → comment.span.start ≡ x.span.start
  same_start comment t =
      let listed = t.listed in
      let not_before = subst (λ (c : Comment). closing.end ≤ c.span.start → x.span.start ≤ c.span.start) listed.2
      (least listed.0 comment listed.1) in
      let not_behind = held (λ c. closing.end ≤ c.span.start → comment.span.start ≤ c.span.start) lexed.comments n x at
      (t.first n x at.within) in
      omega (arith, not_before t.behind, not_behind behind)

  is_trailing : first_line lexed x.span ≡ last_line lexed closing → NoneBetween lexed.tokens closing.end x.span.start
      → IsTrailing lexed closing x
  is_trailing on_line none = record {
    listed = (n, at.within, sym at.is);
    behind = behind;
    first = λ k d h later. least k d h later;
    on_line = on_line;
    none_between = none;
  }

-- what the test of the code says of the comment that the search found, in the comments that the call gave
module _ (lexed : Lexed) (closing : Span) (n : ℕ) (d : Comment) (comments : List Comment)
    (same : comments ≡ lexed.comments) (ordered : CommentsInOrder lexed.comments) (within : n < length lexed.comments)
    (parted : IsPartitionPoint (λ (c : Comment). c.span.start < closing.end)
    (λ (c : Comment). closing.end ≤ c.span.start) lexed.comments n)
    (r : Bool) (says : IsTrue r
    ↔ (first_line lexed (get_or comments n d).span ≡ last_line lexed closing)
    × NoneBetween lexed.tokens closing.end (get_or comments n d).span.start) where
  here : IsAt lexed.comments n (get_or lexed.comments n d)
  here = at_index lexed.comments n d within

  said : IsTrue r ↔ (first_line lexed (get_or lexed.comments n d).span ≡ last_line lexed closing)
      × NoneBetween lexed.tokens closing.end (get_or lexed.comments n d).span.start
  said = rw same at says

  pub refuted : r ≡ false → (comment : Comment) → IsTrailing lexed closing comment → ⊥
  refuted is comment t =
      let start = same_start lexed closing n (get_or lexed.comments n d) ordered here parted comment t in
      let yes = said.1 (
        ap (line_of lexed.text) (sym start) ∙ t.on_line,
        subst (λ place. NoneBetween lexed.tokens closing.end place) start t.none_between,
      ) in
      absurd (cc)

  pub confirmed : r ≡ true → IsTrailing lexed closing (get_or comments n d)
  confirmed is =
      let both = said.0 is in
      rw same (is_trailing lexed closing n (get_or lexed.comments n d) ordered here parted both.0 both.1)

-- two comments that trail are one

same_place : (comments : List Comment) (x y : Comment) (k l : ℕ) → CommentsInOrder comments → k < length comments
    → l < length comments → get_or comments k x ≡ x → get_or comments l y ≡ y → x.span.start ≡ y.span.start
    → (k < l) ⊎ ((k ≡ l) ⊎ (l < k)) → x ≡ y
same_place comments x y k l ordered hk hl at_x at_y same (inl before) =
    let at_x' = get_or_default comments k y x hk ∙ at_x in
    let apart = ends_before (λ (c : Comment). c.span) 0 k l y comments ordered before hl in
    let filled = (behind_place (λ (c : Comment). c.span) 0 k y comments ordered hk).1 in
    let apart' = rw (at_x', at_y) at apart in
    let filled' = rw at_x' at filled in
    absurd (omega arith)
same_place comments x y k l ordered hk hl at_x at_y same (inr (inl at)) =
    sym at_x ∙ (rw at (get_or_default comments l x y hl) ∙ at_y)
same_place comments x y k l ordered hk hl at_x at_y same (inr (inr behind)) =
    let at_y' = get_or_default comments l x y hl ∙ at_y in
    let apart = ends_before (λ (c : Comment). c.span) 0 l k x comments ordered behind hk in
    let filled = (behind_place (λ (c : Comment). c.span) 0 l x comments ordered hl).1 in
    let apart' = rw (at_y', at_x) at apart in
    let filled' = rw at_y' at filled in
    absurd (omega arith)

pub one_trailing : (lexed : Lexed) (closing : Span) (x y : Comment) → CommentsInOrder lexed.comments
    → IsTrailing lexed closing x → IsTrailing lexed closing y → x ≡ y
one_trailing lexed closing x y ordered a b =
    let x_first = All-contains
    (λ c. closing.end ≤ c.span.start → x.span.start ≤ c.span.start) lexed.comments y a.first b.listed b.behind in
    let y_first = All-contains
    (λ c. closing.end ≤ c.span.start → y.span.start ≤ c.span.start) lexed.comments x b.first a.listed a.behind in
    same_place lexed.comments x y a.listed.0 b.listed.0 ordered a.listed.1 b.listed.1 a.listed.2 b.listed.2
    (omega arith) (grind arith)
