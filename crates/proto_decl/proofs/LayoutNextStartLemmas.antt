-- Where the line behind that of an offset starts.
use Rattle.std.proofs.Common.{◌≡◌, ◌∙◌, sym, refl, ℕ, suc, ◌+◌, ◌-◌, ◌<◌, ◌≤◌, ◌⊎◌, inl, inr, Bool, true, false, not}
use Rattle.std.proofs.Common.{cond, IsTrue, ◌↔◌, Option, Some, None, position, List, [], ◌∷◌, length, get_or, take}
use Rattle.std.proofs.Common.{drop, slice_range, arith}
use Rattle.std.specs.Prelude.{MatchOption}
use Rattle.std.specs.List.{count_by}
use Rattle.std.specs.Option.{is_some}
use Rattle.std.proofs.lemmas.Bool.{false≢true}
use Rattle.std.proofs.lemmas.List.{take-take, length-take, get_or-take}
use Rattle.std.proofs.lemmas.List.Sums.{sum_by-cons, count_by_more_yes}
use Rattle.std.proofs.lemmas.List.Quantifiers.{position-Some}
use Rattle.std.proofs.lemmas.List.Sums.{fails_before_first}
use Rattle.std.proofs.lemmas.Bool.Decides.{nat_tests}
use Rattle.std.specs.List.{position_or_len}
use Rattle.proto_lex.proofs.PositionLineStartLemmas.{more_lines as lines_rise}
use Rattle.proto_lex.specs.Position.{is_line_end, line_of}
use Rattle.proto_decl.specs.Layout.{IsNextStart}
use Rattle.proto_decl.proofs.LayoutLineEndLemmas.{lines_between}

-- bytes of which none ends a line
none_counted : (bytes : List ℕ)
    → ((k : ℕ) → k < length bytes → is_line_end (get_or bytes k 0) ≡ false) → count_by is_line_end bytes ≡ 0
none_counted [] none = refl
none_counted (byte ∷ others) none =
    let first = none 0 (omega arith) in
    let rest = none_counted others (λ k h. none (suc k) (omega arith)) in
    sum_by-cons (λ c. cond {A = ℕ} (is_line_end c) 1 0) byte others ∙ rw (first, rest) refl

no_position : (bytes : List ℕ) → position is_line_end bytes ≡ None → count_by is_line_end bytes ≡ 0
no_position bytes e =
    none_counted bytes
    (λ k h. let far : length bytes ≤ position_or_len is_line_end bytes = grind (arith, nat_tests) in
    fails_before_first is_line_end bytes k 0 (omega arith))

module _ (text : List ℕ) (from upto : ℕ) where
  -- the line of an offset between two
  line_between : (i : ℕ) → from + i ≤ upto
      → line_of text from + count_by is_line_end (take i (slice_range text from upto)) ≡ line_of text (from + i)
  line_between i h =
      let count : from + i - from ≡ i = omega arith in
      let same : take i (slice_range text from upto) ≡ take i (drop from text) =
      take-take i (upto - from) (drop from text) (omega (arith, h)) in
      rw same (rw count at (lines_between text from (from + i) (omega arith)))

  -- what is found in the bytes between
  module _ (index : ℕ) (found : position is_line_end (slice_range text from upto) ≡ Some index) where
    part : (index < length (slice_range text from upto))
        × (is_line_end (get_or (slice_range text from upto) index 0) ≡ true)
        × ((k : ℕ) → k < index → is_line_end (get_or (slice_range text from upto) k 0) ≡ false)
    part = position-Some is_line_end (slice_range text from upto) index 0 found

    pub start_within : from + index + 1 ≤ upto
    start_within = omega (arith, part.0, length-take (upto - from) (drop from text))

    before : count_by is_line_end (take index (slice_range text from upto)) ≡ 0
    before =
        none_counted (take index (slice_range text from upto)) (λ k h.
        let low : k < index = omega (arith, h, length-take index (slice_range text from upto)) in
        rw (get_or-take index (slice_range text from upto) k 0 low) (part.2 k low))

    line_at_end : line_of text (from + index) ≡ line_of text from
    line_at_end = omega (arith, line_between index (omega (arith, start_within)), before)

    line_behind_end : line_of text (from + index + 1) ≡ line_of text from + 1
    line_behind_end =
        let on : from + (index + 1) ≡ from + index + 1 = omega arith in
        let line = rw on at (line_between (index + 1) (omega (arith, start_within))) in
        omega (
          arith,
          line,
          before,
          count_by_more_yes is_line_end (slice_range text from upto) index 0 part.0 part.1,
        )

    next_start_is : IsNextStart text from upto (from + index + 1)
    next_start_is = record {
      within = start_within;
      one_further = line_behind_end;
      first = λ place h. omega (arith, lines_rise text place (from + index) (omega arith), line_at_end);
    }

  no_line_end : position is_line_end (slice_range text from upto) ≡ None
      → (from ≤ upto) ⊎ (upto < from) → line_of text upto ≤ line_of text from
  no_line_end none (inl rises) =
      omega (arith, lines_between text from upto rises, no_position (slice_range text from upto) none)
  no_line_end none (inr falls) = lines_rise text upto from (omega arith)

  -- what the look at the bytes between says, in the text that the call gave
  module _ (bytes : List ℕ) (same : bytes ≡ slice_range text from upto) where
    pub found_start : (index : ℕ) → Some index ≡ position is_line_end bytes
        → IsNextStart text from upto (from + index + 1)
    found_start index e = next_start_is index (sym (rw same at e))

    pub found_within : (index : ℕ) → Some index ≡ position is_line_end bytes → from + index + 1 ≤ upto
    found_within index e = start_within index (sym (rw same at e))

    pub unfound : None ≡ position is_line_end bytes → line_of text upto ≤ line_of text from
    unfound e = no_line_end (sym (rw same at e)) (grind arith)

  -- whether a second line starts between
  pub adjoining : (start : ℕ) (later : Option ℕ) (r : Bool) → is_some later ≡ not r → IsNextStart text from upto start
      → MatchOption later (line_of text upto ≤ line_of text start) (IsNextStart text start upto)
      → IsTrue r ↔ (line_of text upto ≤ line_of text from + 1)
  adjoining start None true e next none = ((λ t. omega (arith, none, next.one_further)), (λ h. refl))
  adjoining start None false e next none = absurd (false≢true e)
  adjoining start (Some further) true e next second = absurd (false≢true (sym e))
  adjoining start (Some further) false e next second = (
    (λ t. absurd (false≢true t)),
    (λ h. absurd (omega (arith, h, second.one_further, next.one_further, lines_rise text further upto second.within))),
  )

  pub adjoining_at_once : line_of text upto ≤ line_of text from → line_of text upto ≤ line_of text from + 1
  adjoining_at_once h = omega (arith, h)

-- whether a line ends near an offset, in the text that the call gave
module _ (text text' : List ℕ) (same : text' ≡ text) (from near upto : ℕ) (le : near ≤ upto) where
  pub seen : (start : Option ℕ)
      → MatchOption start (line_of text' near ≤ line_of text' from) (IsNextStart text' from near)
      → is_some start ≡ true → line_of text from < line_of text upto
  seen None none is = absurd (false≢true is)
  seen (Some start) next is =
      let next' : IsNextStart text from near start = rw same at next in
      omega (
        arith,
        next'.one_further,
        lines_rise text start near next'.within,
        lines_rise text near upto le,
      )

  pub unseen : (start : Option ℕ)
      → MatchOption start (line_of text' near ≤ line_of text' from) (IsNextStart text' from near)
      → is_some start ≡ false → near ≡ upto → line_of text from < line_of text upto → ⊥
  unseen None none is end less =
      let none' : line_of text near ≤ line_of text from = rw same at none in
      let none_up : line_of text upto ≤ line_of text from = rw end at none' in
      omega (arith, none_up, less)
  unseen (Some start) next is end less = absurd (false≢true (sym is))
