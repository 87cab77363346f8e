-- The comments that lead a declaration, by their places in the list of comments.
use Rattle.std.proofs.Common.{◌≡◌, ◌∙◌, sym, ap, refl, subst, ℕ, zero, suc, ◌+◌, ◌-◌, ◌<◌, ◌≤◌, ◌⊎◌, ◌↔◌, inl, inr}
use Rattle.std.proofs.Common.{Bool, true, false, IsTrue, List, [], ◌∷◌, ◌++◌, length, get_or, take, drop, map, arith}
use Rattle.std.proofs.Common.{length-append}
use Rattle.std.specs.List.Sorted.{IsPartitionPoint}
use Rattle.std.proofs.lemmas.List.{get_or_append_left, get_or-append-add, get_or-take, get_or-drop, take-append-drop}
use Rattle.std.proofs.lemmas.List.{drop-drop, length-take-le, length-drop, get_or_default}
use Rattle.std.proofs.Math.Seq.{drop-append_seam, take-append_seam}
use Rattle.proto_lex.proofs.PositionLineStartLemmas.{more_lines as lines_rise}
use Rattle.proto_lex.specs.declared.span.Span.{Span}
use Rattle.proto_lex.specs.declared.token.Comment.{Comment}
use Rattle.proto_lex.specs.Lexed.{Lexed, AreInOrder}
use Rattle.proto_lex.specs.Position.{line_of}
use Rattle.proto_lex.specs.CommentTexts.{StandsAlone}
use Rattle.proto_decl.specs.Comments.{first_line, last_line, AreJoined, EndBefore, AreLeading, AreLongestLeading}
use Rattle.proto_decl.proofs.LayoutLineLemmas.{behind_place, ends_before, ends_rise, IsAt, at_any, at_index}

abbrev pub CommentsInOrder : List Comment → Type 0
CommentsInOrder comments = AreInOrder 0 (map (λ (c : Comment). c.span) comments)

-- so many comments end on lines before a line
abbrev pub EndAbove : (lexed : Lexed) (line count : ℕ) → Type 0
EndAbove lexed line count =
    IsPartitionPoint (λ (c : Comment). line_of lexed.text c.span.end < line)
    (λ (c : Comment). line ≤ line_of lexed.text c.span.end) lexed.comments count

module _ (lexed : Lexed) (line : ℕ) where
  abbrev Alone : Span → Type 0
  Alone span = StandsAlone lexed.text lexed.tokens span

  -- what is said of comments that may lead, by their places
  pub record IsRun (from upto : ℕ) : Type 0 where
    pub alone : (k : ℕ) (d : Comment) → from ≤ k → k < upto
        → StandsAlone lexed.text lexed.tokens (get_or lexed.comments k d).span
    pub joined : (k : ℕ) (d : Comment) → from ≤ k → k + 1 < upto
        → first_line lexed (get_or lexed.comments (k + 1) d).span ≤ last_line lexed (get_or lexed.comments k d).span + 1
    pub adjoining : (d : Comment) → from < upto → last_line lexed (get_or lexed.comments (upto - 1) d).span + 1 ≡ line

  -- the line on which such comments begin, or the line that they lead where there are none
  pub record IsNextLine (from upto next : ℕ) : Type 0 where
    pub none : from ≡ upto → next ≡ line
    pub some : (d : Comment) → from < upto → next ≡ first_line lexed (get_or lexed.comments from d).span

module _ (lexed : Lexed) (line : ℕ) where
  -- from a list to places

  joined_at : (cs : List Comment) (k : ℕ) (d : Comment) → AreJoined lexed cs → k + 1 < length cs
      → first_line lexed (get_or cs (k + 1) d).span ≤ last_line lexed (get_or cs k d).span + 1
  joined_at [] k d joined h = absurd (omega arith)
  joined_at (c ∷ []) k d joined h = absurd (omega arith)
  joined_at (c ∷ (next ∷ others)) zero d joined h = joined.1
  joined_at (c ∷ (next ∷ others)) (suc k) d joined h = let one : suc k + 1 ≡ suc (k + 1) = omega arith in
      rw one (joined_at (next ∷ others) k d joined.2 (omega arith))

  ends_at : (cs : List Comment) (d : Comment) → EndBefore lexed line cs → 0 < length cs
      → last_line lexed (get_or cs (length cs - 1) d).span + 1 ≡ line
  ends_at [] d ends h = absurd (omega arith)
  ends_at (c ∷ []) d ends h = ends
  ends_at (c ∷ (next ∷ others)) d ends h =
      let one : length (c ∷ (next ∷ others)) - 1 ≡ suc (length (next ∷ others) - 1) = omega arith in
      rw one (ends_at (next ∷ others) d ends (omega arith))

  place : (cs : List Comment) (a : AreLeading lexed line cs) (k : ℕ) (d : Comment) → k < length cs
      → get_or lexed.comments (length a.before + k) d ≡ get_or cs k d
  place cs a k d h = ap (λ xs. get_or xs (length a.before + k) d) a.consecutive
      ∙ get_or-append-add a.before (cs ++ a.behind) k d ∙ get_or_append_left cs a.behind d k h

  pub run-from_leading : (cs : List Comment) (a : AreLeading lexed line cs)
      → IsRun lexed line (length a.before) (length a.before + length cs)
  run-from_leading cs a =
      let n : ℕ = length a.before in
      record {
        alone = λ k d low high.
            let at : n + (k - n) ≡ k = omega arith in
            subst (λ i. StandsAlone lexed.text lexed.tokens (get_or lexed.comments i d).span) at
            (rw (place cs a (k - n) d (omega arith)) (a.alone (k - n) d (omega arith)));
        joined = λ k d low high.
            let at : n + (k - n) ≡ k = omega arith in
            let at' : n + (k - n + 1) ≡ k + 1 = omega arith in
            let here = sym (place cs a (k - n) d (omega arith)) ∙ ap (λ i. get_or lexed.comments i d) at in
            let next = sym (place cs a (k - n + 1) d (omega arith)) ∙ ap (λ i. get_or lexed.comments i d) at' in
            rw (here, next) at (joined_at cs (k - n) d a.joined (omega arith));
        adjoining = λ d some.
            let at : n + (length cs - 1) ≡ n + length cs - 1 = omega arith in
            let last = sym (place cs a (length cs - 1) d (omega arith)) ∙ ap (λ i. get_or lexed.comments i d) at in
            rw last at (ends_at cs d a.adjoining (omega arith));
      }

  pub fits : (cs : List Comment) (a : AreLeading lexed line cs) → length a.before + length cs ≤ length lexed.comments
  fits cs a = omega (arith, ap length a.consecutive, length-append a.before (cs ++ a.behind), length-append cs a.behind)

  -- from places to a list

  joined-from_places : (cs : List Comment)
      → ((k : ℕ) (d : Comment) → k + 1 < length cs
      → (last_line lexed (get_or cs k d).span ≤ first_line lexed (get_or cs (k + 1) d).span)
      × (first_line lexed (get_or cs (k + 1) d).span ≤ last_line lexed (get_or cs k d).span + 1))
      → AreJoined lexed cs
  joined-from_places [] h = tt
  joined-from_places (c ∷ []) h = tt
  joined-from_places (c ∷ (next ∷ others)) h =
      let first = h 0 c (omega arith) in (
        first.0,
        first.1,
        joined-from_places (next ∷ others)
            (λ k d l. let one : suc k + 1 ≡ suc (k + 1) = omega arith in rw one at (h (suc k) d (omega arith))),
      )

  ends-from_place : (cs : List Comment)
      → ((d : Comment) → 0 < length cs → last_line lexed (get_or cs (length cs - 1) d).span + 1 ≡ line)
      → EndBefore lexed line cs
  ends-from_place [] h = tt
  ends-from_place (c ∷ []) h = h c (omega arith)
  ends-from_place (c ∷ (next ∷ others)) h =
      ends-from_place (next ∷ others) (λ d l.
      let one : length (c ∷ (next ∷ others)) - 1 ≡ suc (length (next ∷ others) - 1) = omega arith in
      rw one at (h d (omega arith)))

module _ (lexed : Lexed) (line : ℕ) (ordered : CommentsInOrder lexed.comments) where
  -- the lines of comments in order
  begins_by_end : (k : ℕ) (d : Comment) → k < length lexed.comments
      → first_line lexed (get_or lexed.comments k d).span ≤ last_line lexed (get_or lexed.comments k d).span
  begins_by_end k d h = let filled = (behind_place (λ (c : Comment). c.span) 0 k d lexed.comments ordered h).1 in
      lines_rise lexed.text _ _ (omega arith)

  ends_by_begin : (i k : ℕ) (d : Comment) → i < k → k < length lexed.comments
      → last_line lexed (get_or lexed.comments i d).span ≤ first_line lexed (get_or lexed.comments k d).span
  ends_by_begin i k d l h =
      lines_rise lexed.text _ _ (ends_before (λ (c : Comment). c.span) 0 i k d lexed.comments ordered l h)

  ends_by_end : (i k : ℕ) (d : Comment) → i ≤ k → k < length lexed.comments
      → last_line lexed (get_or lexed.comments i d).span ≤ last_line lexed (get_or lexed.comments k d).span
  ends_by_end i k d l h = lines_rise lexed.text _ _
      (ends_rise (λ (c : Comment). c.span) 0 i k d lexed.comments ordered l h)

  pub leading-from_run : (from upto : ℕ) → from ≤ upto → upto ≤ length lexed.comments → IsRun lexed line from upto
      → AreLeading lexed line (take (upto - from) (drop from lexed.comments))
  leading-from_run from upto le within run =
      let n : ℕ = upto - from in
      let cs : List Comment = take n (drop from lexed.comments) in
      let count : length cs ≡ n =
      length-take-le n (drop from lexed.comments) (omega (arith, length-drop from lexed.comments)) in
      let at : (k : ℕ) (d : Comment) → k < n → get_or cs k d ≡ get_or lexed.comments (from + k) d =
      λ k d h. get_or-take n (drop from lexed.comments) k d h ∙ get_or-drop from lexed.comments k d in
      let end : from + n ≡ upto = omega arith in
      record {
        before = take from lexed.comments;
        behind = drop upto lexed.comments;
        consecutive =
            sym (ap (λ xs. take from lexed.comments ++ (cs ++ xs))
            (ap (λ k. drop k lexed.comments) (sym end) ∙ sym (drop-drop n from lexed.comments))
            ∙ ap (λ xs. take from lexed.comments ++ xs) (take-append-drop n (drop from lexed.comments))
            ∙ take-append-drop from lexed.comments);
        alone = λ k d h. rw (at k d (omega arith)) (run.alone (from + k) d (omega arith) (omega arith));
        joined = joined-from_places lexed line cs (λ k d h.
            let further : from + (k + 1) ≡ from + k + 1 = omega arith in
            rw (at k d (omega arith), at (k + 1) d (omega arith), further) (
              ends_by_begin (from + k) (from + k + 1) d (omega arith) (omega arith),
              run.joined (from + k) d (omega arith) (omega arith),
            ));
        adjoining = ends-from_place lexed line cs (λ d h.
            let last : from + (length cs - 1) ≡ upto - 1 = omega arith in
            rw (at (length cs - 1) d (omega arith), last) (run.adjoining d (omega arith)));
      }

  -- what begins and ends on the line on which a comment ends that stands alone stands alone too
  alone_on : (a x : Span) → first_line lexed a ≤ last_line lexed a → first_line lexed x ≡ last_line lexed a
      → last_line lexed x ≡ last_line lexed a → StandsAlone lexed.text lexed.tokens a
      → StandsAlone lexed.text lexed.tokens x
  alone_on a x filled first last alone =
      λ k d h l on_x on_token. alone k d h l (omega (arith, on_x.0), omega (arith, on_x.1)) on_token

  -- a list that ends on the line before, and then another comment that ends there
  one_more : (from upto later : ℕ) (d : Comment) → IsRun lexed line from upto → from < upto → upto ≤ later
      → later < length lexed.comments
      → last_line lexed (get_or lexed.comments later d).span + 1 ≡ line
      → StandsAlone lexed.text lexed.tokens (get_or lexed.comments upto d).span
      × (first_line lexed (get_or lexed.comments upto d).span + 1 ≡ line)
      × (last_line lexed (get_or lexed.comments upto d).span + 1 ≡ line)
  one_more from upto later d run some le within ends =
      let last = run.adjoining d some in
      let behind = ends_by_begin (upto - 1) upto d (omega arith) (omega arith) in
      let filled = begins_by_end upto d (omega arith) in
      let before = ends_by_end upto later d le within in (
        alone_on _ _ (begins_by_end (upto - 1) d (omega arith)) (omega arith) (omega arith)
            (run.alone (upto - 1) d (omega arith) (omega arith)),
        omega arith,
        omega arith,
      )

  -- no list of comments that may lead is longer than one that can't be longer at its front

  abbrev pub IsStop : (from next : ℕ) → Type 0
  IsStop from next = (d : Comment) → 0 < from → next ≤ last_line lexed (get_or lexed.comments (from - 1) d).span + 1
      → StandsAlone lexed.text lexed.tokens (get_or lexed.comments (from - 1) d).span → ⊥

  next-le : (from upto next : ℕ) (d : Comment) → EndAbove lexed line upto → upto ≤ length lexed.comments
      → IsNextLine lexed line from upto next → (from < upto) ⊎ (from ≡ upto) → next ≤ line
  next-le from upto next d above within n (inl some) =
      omega (arith, n.some d some, begins_by_end from d (omega arith), above.0 from d (omega arith) some)
  next-le from upto next d above within n (inr none) = omega (arith, n.none none)

  refuted : (from upto next s e : ℕ) (d : Comment) → EndAbove lexed line upto → from ≤ upto
      → upto ≤ length lexed.comments → IsNextLine lexed line from upto next → IsStop from next
      → IsRun lexed line s e → s < from → s < e → e ≤ upto → (from < e) ⊎ ((e ≡ from) ⊎ (e < from)) → ⊥
  refuted from upto next s e d above le within n stop run less some fit (inl inside) =
      let back : from - 1 + 1 ≡ from = omega arith in
      let joined = rw back at (run.joined (from - 1) d (omega arith) (omega arith)) in
      stop d (omega arith) (omega (arith, n.some d (omega arith), joined))
      (run.alone (from - 1) d (omega arith) (omega arith))
  refuted from upto next s e d above le within n stop run less some fit (inr (inl at)) =
      let last = rw at at (run.adjoining d some) in
      let no_later : next ≤ line = next-le from upto next d above within n (grind arith) in
      stop d (omega arith) (omega arith) (run.alone (from - 1) d (omega arith) (omega arith))
  refuted from upto next s e d above le within n stop run less some fit (inr (inr before)) =
      let later = ends_by_end (e - 1) (from - 1) d (omega arith) (omega arith) in
      let ends = run.adjoining d some in
      let early = above.0 (from - 1) d (omega arith) (omega arith) in
      let last : last_line lexed (get_or lexed.comments (from - 1) d).span + 1 ≡ line = omega arith in
      let behind = ends_by_begin (e - 1) (from - 1) d (omega arith) (omega arith) in
      let filled = begins_by_end (from - 1) d (omega arith) in
      let no_later : next ≤ line = next-le from upto next d above within n (grind arith) in
      stop d (omega arith) (omega arith)
      (alone_on _ _ (begins_by_end (e - 1) d (omega arith)) (omega arith) (omega arith)
      (run.alone (e - 1) d (omega arith) (omega arith)))

  pub longest : (from upto next : ℕ) → EndAbove lexed line upto → from ≤ upto → upto ≤ length lexed.comments
      → IsNextLine lexed line from upto next → IsStop from next
      → (others : List Comment) → AreLeading lexed line others → length others ≤ upto - from
  longest from upto next above le within n stop [] a = omega arith
  longest from upto next above le within n stop (c ∷ cs) a =
      let s : ℕ = length a.before in
      let e : ℕ = s + length (c ∷ cs) in
      let run = run-from_leading lexed line (c ∷ cs) a in
      let fit = fits lexed line (c ∷ cs) a in
      let ends = run.adjoining c (omega arith) in
      let inside : upto < e → ⊥ = λ out. omega (arith, above.1 (e - 1) c (omega arith) (omega arith), ends) in
      let not_more : upto - from < length (c ∷ cs) → ⊥ = λ more.
      refuted from upto next s e c above le within n stop run (omega (arith, inside)) (omega arith)
      (omega (arith, inside)) (grind arith) in
      omega (arith, not_more)

  -- one comment more at the front

  module _ (from upto next : ℕ) (x : Comment) (at : IsAt lexed.comments (from - 1) x) (some : 0 < from)
      (le : from ≤ upto) (within : upto ≤ length lexed.comments)
      (above : EndAbove lexed line upto) (n : IsNextLine lexed line from upto next) (run : IsRun lexed line from upto)
      (near : next ≤ last_line lexed x.span + 1) (alone : StandsAlone lexed.text lexed.tokens x.span) where
    x_at : (k : ℕ) (d : Comment) → k + 1 ≡ from → get_or lexed.comments k d ≡ x
    x_at k d e = let is : k ≡ from - 1 = omega arith in rw is (at_any lexed.comments (from - 1) x d at)

    front_alone : (k : ℕ) (d : Comment) → from - 1 ≤ k → k < upto → (k + 1 ≡ from) ⊎ (from ≤ k)
        → StandsAlone lexed.text lexed.tokens (get_or lexed.comments k d).span
    front_alone k d low high (inl is) = rw (x_at k d is) alone
    front_alone k d low high (inr further) = run.alone k d further high

    front_joined : (k : ℕ) (d : Comment) → from - 1 ≤ k → k + 1 < upto → (k + 1 ≡ from) ⊎ (from ≤ k)
        → first_line lexed (get_or lexed.comments (k + 1) d).span ≤ last_line lexed (get_or lexed.comments k d).span + 1
    front_joined k d low high (inl is) = rw (x_at k d is, is) (omega (arith, n.some d (omega arith)))
    front_joined k d low high (inr further) = run.joined k d further high

    front_ends : (d : Comment) → (from < upto) ⊎ (from ≡ upto)
        → last_line lexed (get_or lexed.comments (upto - 1) d).span + 1 ≡ line
    front_ends d (inl more) = run.adjoining d more
    front_ends d (inr none) =
        let early = above.0 (upto - 1) d (omega arith) (omega arith) in
        let here = x_at (upto - 1) d (omega arith) in
        let early' = rw here at early in
        rw here (omega (arith, n.none none))

    pub run-front : IsRun lexed line (from - 1) upto
    run-front = record {
      alone = λ k d low high. front_alone k d low high (grind arith);
      joined = λ k d low high. front_joined k d low high (grind arith);
      adjoining = λ d less. front_ends d (grind arith);
    }

    pub next-front : IsNextLine lexed line (from - 1) upto (first_line lexed x.span)
    next-front = record { none = λ e. absurd (omega arith); some = λ d less. rw (x_at (from - 1) d (omega arith)) refl }

-- what the code's loop knows: in the comments and the text that the calls gave
module _ (lexed : Lexed) (line : ℕ) (ordered : CommentsInOrder lexed.comments) (from upto next : ℕ)
    (comments : List Comment) (same : comments ≡ lexed.comments) (le : from ≤ upto)
    (within : upto ≤ length lexed.comments)
    (above : EndAbove lexed line upto) (run : IsRun lexed line from upto)
    (n : IsNextLine lexed line from upto next) where
  found : IsStop lexed line ordered from next
      → AreLongestLeading lexed line (take (upto - from) (drop from lexed.comments))
  found stop =
      let count : length (take (upto - from) (drop from lexed.comments)) ≡ upto - from =
      length-take-le (upto - from) (drop from lexed.comments) (omega (arith, length-drop from lexed.comments)) in
      record {
        leading = leading-from_run lexed line ordered from upto le within run;
        longest = λ others a. rw count (longest lexed line ordered from upto next above le within n stop others a);
      }

  -- the loop ends at a comment that doesn't lead
  pub found_by_test : (d : Comment) (r : Bool) → r ≡ false → 0 < from
      → IsTrue r ↔ ((next ≤ line_of lexed.text (get_or comments (from - 1) d).span.end + 1)
      × StandsAlone lexed.text lexed.tokens (get_or comments (from - 1) d).span)
      → AreLongestLeading lexed line (take (upto - from) (drop from comments))
  found_by_test d r is some says =
      let says' = rw same at says in
      rw same (found (λ e less near alone.
      let at : get_or lexed.comments (from - 1) e ≡ get_or lexed.comments (from - 1) d =
      get_or_default lexed.comments (from - 1) e d (omega arith) in
      let true_too = says'.1 (rw at at near, rw at at alone) in
      absurd (cc)))

  -- or behind the first comment
  pub found_by_start : from ≡ 0 → AreLongestLeading lexed line (take upto comments)
  found_by_start none =
      let whole : upto - 0 ≡ upto = omega arith in
      let all : take (upto - from) (drop from lexed.comments) ≡ take upto lexed.comments = rw (none, whole) refl in
      rw same (subst (AreLongestLeading lexed line) all (found (λ e less near alone. absurd (omega arith))))

  -- or goes on with one that leads
  pub front : (d : Comment) (r : Bool) → r ≡ true → 0 < from
      → IsTrue r ↔ ((next ≤ line_of lexed.text (get_or comments (from - 1) d).span.end + 1)
      × StandsAlone lexed.text lexed.tokens (get_or comments (from - 1) d).span)
      → IsRun lexed line (from - 1) upto
      × IsNextLine lexed line (from - 1) upto (line_of lexed.text (get_or comments (from - 1) d).span.start)
  front d r is some says =
      let says' = rw same at says in
      let x : Comment = get_or lexed.comments (from - 1) d in
      let at = at_index lexed.comments (from - 1) d (omega arith) in
      let near = (says'.0 is).0 in
      let alone = (says'.0 is).1 in (
        run-front lexed line ordered from upto next x at some le within above n run near alone,
        rw same (next-front lexed line ordered from upto next x at some le within above n run near alone),
      )

  -- the comment at the front ends above the line
  pub ends_above : (d : Comment) → 0 < from → line_of lexed.text (get_or comments (from - 1) d).span.end < line
  ends_above d some = rw same (above.0 (from - 1) d (omega arith) (omega arith))

-- two lists of comments that may lead, of which none is longer, are one

-- such a list, and another comment behind it on the line before
module _ (lexed : Lexed) (line : ℕ) (ordered : CommentsInOrder lexed.comments) (from upto later : ℕ) (d : Comment)
    (run : IsRun lexed line from upto) (some : from < upto) (le : upto ≤ later)
    (within : later < length lexed.comments)
    (ends : last_line lexed (get_or lexed.comments later d).span + 1 ≡ line) where
  at_end : (e : Comment) → get_or lexed.comments upto e ≡ get_or lexed.comments upto d
  at_end e = get_or_default lexed.comments upto e d (omega arith)

  next : StandsAlone lexed.text lexed.tokens (get_or lexed.comments upto d).span
      × (first_line lexed (get_or lexed.comments upto d).span + 1 ≡ line)
      × (last_line lexed (get_or lexed.comments upto d).span + 1 ≡ line)
  next = one_more lexed line ordered from upto later d run some le within ends

  longer_alone : (k : ℕ) (e : Comment) → from ≤ k → (k < upto) ⊎ (k ≡ upto)
      → StandsAlone lexed.text lexed.tokens (get_or lexed.comments k e).span
  longer_alone k e low (inl before) = run.alone k e low before
  longer_alone k e low (inr at) = rw (at, at_end e) next.0

  longer_joined : (k : ℕ) (e : Comment) → from ≤ k → (k + 1 < upto) ⊎ (k + 1 ≡ upto)
      → first_line lexed (get_or lexed.comments (k + 1) e).span ≤ last_line lexed (get_or lexed.comments k e).span + 1
  longer_joined k e low (inl before) = run.joined k e low before
  longer_joined k e low (inr at) =
      let back : upto - 1 ≡ k = omega arith in
      let last = rw back at (run.adjoining e some) in
      rw (at, at_end e) (omega (arith, next.1, last))

  longer : IsRun lexed line from (upto + 1)
  longer =
      let here : upto + 1 - 1 ≡ upto = omega arith in
      record {
        alone = λ k e low high. longer_alone k e low (grind arith);
        joined = λ k e low high. longer_joined k e low (grind arith);
        adjoining = λ e less. rw (here, at_end e) next.2;
      }

  not_longest : ((others : List Comment) → AreLeading lexed line others → length others ≤ upto - from) → ⊥
  not_longest longest =
      let more = longest (take (upto + 1 - from) (drop from lexed.comments))
      (leading-from_run lexed line ordered from (upto + 1) (omega arith) (omega arith) longer) in
      omega (
        arith,
        more,
        length-take-le (upto + 1 - from) (drop from lexed.comments)
            (omega (arith, length-drop from lexed.comments)),
      )

module _ (lexed : Lexed) (line : ℕ) (ordered : CommentsInOrder lexed.comments) where
  taken : (cs : List Comment) (a : AreLeading lexed line cs)
      → cs ≡ take (length cs) (drop (length a.before) lexed.comments)
  taken cs a = sym (ap (λ xs. take (length cs) (drop (length a.before) xs)) a.consecutive
      ∙ (ap (take (length cs)) (drop-append_seam a.before (cs ++ a.behind)) ∙ take-append_seam cs a.behind))

  not_before : (c : Comment) (cs ds : List Comment) (a : AreLongestLeading lexed line (c ∷ cs))
      (b : AreLongestLeading lexed line ds) → length (c ∷ cs) ≡ length ds
      → length a.leading.before < length b.leading.before → ⊥
  not_before c cs ds a b count less =
      let s : ℕ = length a.leading.before in
      let t : ℕ = length b.leading.before in
      let fit = fits lexed line ds b.leading in
      let last : t + length ds - 1 < length lexed.comments = omega arith in
      not_longest lexed line ordered s (s + length (c ∷ cs)) (t + length ds - 1) c
      (run-from_leading lexed line (c ∷ cs) a.leading) (omega arith) (omega arith) last
      ((run-from_leading lexed line ds b.leading).adjoining c (omega arith))
      (λ others l. omega (arith, a.longest others l))

  by_order : (c : Comment) (cs ds : List Comment) (a : AreLongestLeading lexed line (c ∷ cs))
      (b : AreLongestLeading lexed line ds) → length (c ∷ cs) ≡ length ds
      → (length a.leading.before < length b.leading.before)
      ⊎ ((length a.leading.before ≡ length b.leading.before) ⊎ (length b.leading.before < length a.leading.before))
      → c ∷ cs ≡ ds
  by_order c cs ds a b count (inl less) = absurd (not_before c cs ds a b count less)
  by_order c cs ds a b count (inr (inl same)) = taken (c ∷ cs) a.leading ∙ (rw (count, same) (sym (taken ds b.leading)))
  by_order c cs [] a b count (inr (inr less)) = absurd (omega arith)
  by_order c cs (d ∷ ds) a b count (inr (inr less)) = absurd (not_before d ds (c ∷ cs) b a (sym count) less)

  pub one_longest : (cs ds : List Comment) → AreLongestLeading lexed line cs → AreLongestLeading lexed line ds → cs ≡ ds
  one_longest [] [] a b = refl
  one_longest [] (d ∷ ds) a b = absurd (omega (arith, a.longest (d ∷ ds) b.leading))
  one_longest (c ∷ cs) ds a b =
      by_order c cs ds a b (omega (arith, a.longest ds b.leading, b.longest (c ∷ cs) a.leading)) (grind arith)
