-- The line starts of a text, and what the last one that isn't after an offset says of the offset.
use Rattle.std.proofs.Common.{◌≡◌, ◌∙◌, sym, ap, refl, subst, ℕ, zero, suc, ◌+◌, ◌-◌, ◌<◌, ◌≤◌, List, [], ◌∷◌}
use Rattle.std.proofs.Common.{length, get_or, take, drop, true, false, not, cond, leb, leb-true, arith}
use Rattle.std.specs.List.{suffix_len, count_by, sum_by}
use Rattle.std.specs.List.Sorted.{IsPartitionPoint, IsNonDecreasingBy}
use Rattle.std.proofs.lemmas.Bool.{leb-false}
use Rattle.std.proofs.lemmas.Bool.Decides.{nat_tests}
use Rattle.std.proofs.lemmas.List.{length-take, take-take, get_or-take, get_or_default, drop-take}
use Rattle.std.proofs.lemmas.List.Sums.{sum_by-cons, sum_by-take-le, count_by-le-length, count_by_more_yes}
use Rattle.std.proofs.lemmas.List.Sums.{suffix_len_is}
use Rattle.std.proofs.lemmas.List.Sorted.{IsNonDecreasingBy-from_default}
use Rattle.proto_lex.specs.Position.{is_line_end, later_line_starts, line_starts, line_of, line_before, code_units}
use Rattle.proto_lex.specs.Position.{position_of}
use Rattle.proto_lex.specs.declared.position.Encoding.{Encoding}
use Rattle.proto_lex.specs.declared.position.Position.{Position}

-- a line start after a line end of the bytes at an offset
pub record IsAfterEnd (at : ℕ) (bytes : List ℕ) (start : ℕ) : Type 0 where
  pub index : ℕ
  pub counted : start ≡ at + index + 1
  pub within : index < length bytes
  pub ends : is_line_end (get_or bytes index 0) ≡ true

one_further : (at b start : ℕ) (others : List ℕ) → IsAfterEnd (at + 1) others start → IsAfterEnd at (b ∷ others) start
one_further at b start others e =
    record { index = suc e.index; counted = omega (arith, e.counted); within = omega (arith, e.within); ends = e.ends }

first_or_later : (at k b : ℕ) (others starts : List ℕ) → is_line_end b ≡ true
    → ((j : ℕ) → j < length starts → IsAfterEnd (at + 1) others (get_or starts j 0))
    → k < length ((at + 1) ∷ starts) → IsAfterEnd at (b ∷ others) (get_or ((at + 1) ∷ starts) k 0)
first_or_later at zero b others starts e later h =
    record { index = 0; counted = omega arith; within = omega arith; ends = e }
first_or_later at (suc k) b others starts e later h =
    one_further at b (get_or starts k 0) others (later k (omega arith))

each_after : (at k : ℕ) (bytes : List ℕ) → k < length (later_line_starts at bytes)
    → IsAfterEnd at bytes (get_or (later_line_starts at bytes) k 0)
each_after at k [] = λ h. absurd (omega arith)
each_after at k (b ∷ others) =
    let starts : List ℕ = later_line_starts (at + 1) others in
    elim (is_line_end b)
    as (λ t. is_line_end b ≡ t → k < length (cond t ((at + 1) ∷ starts) starts)
    → IsAfterEnd at (b ∷ others) (get_or (cond t ((at + 1) ∷ starts) starts) k 0)) [
      | true ↦ λ e h. first_or_later at k b others starts e (λ j i. each_after (at + 1) j others i) h
      | false ↦ λ e h. one_further at b (get_or starts k 0) others (each_after (at + 1) k others h)
    ] refl

-- they rise

rise_from : (at i j : ℕ) (starts : List ℕ)
    → ((k l : ℕ) → k ≤ l → l < length starts → get_or starts k 0 ≤ get_or starts l 0)
    → ((k : ℕ) → k < length starts → at ≤ get_or starts k 0) → i ≤ j → j < length (at ∷ starts)
    → get_or (at ∷ starts) i 0 ≤ get_or (at ∷ starts) j 0
rise_from at zero zero starts later least h k = omega arith
rise_from at zero (suc j) starts later least h k = least j (omega arith)
rise_from at (suc i) zero starts later least h k = absurd (omega arith)
rise_from at (suc i) (suc j) starts later least h k = later i j (omega arith) (omega arith)

at_least : (at k : ℕ) (bytes : List ℕ) → k < length (later_line_starts at bytes)
    → at ≤ get_or (later_line_starts at bytes) k 0
at_least at k bytes h = let e = each_after at k bytes h in omega (arith, e.counted)

ends_rise : (at : ℕ) (bytes : List ℕ) (i j : ℕ) → i ≤ j → j < length (later_line_starts at bytes)
    → get_or (later_line_starts at bytes) i 0 ≤ get_or (later_line_starts at bytes) j 0
ends_rise at [] i j h = λ k. absurd (omega arith)
ends_rise at (b ∷ others) i j h =
    let starts : List ℕ = later_line_starts (at + 1) others in
    elim (is_line_end b)
    as (λ t. j < length (cond t ((at + 1) ∷ starts) starts)
    → get_or (cond t ((at + 1) ∷ starts) starts) i 0 ≤ get_or (cond t ((at + 1) ∷ starts) starts) j 0) [
      | true ↦ λ k. rise_from (at + 1) i j starts (ends_rise (at + 1) others) (λ l m. at_least (at + 1) l others m) h k
      | false ↦ λ k. ends_rise (at + 1) others i j h k
    ]

starts_rise : (text : List ℕ) (i j : ℕ) → i ≤ j → j < length (line_starts text)
    → get_or (line_starts text) i 0 ≤ get_or (line_starts text) j 0
starts_rise text i j h k = rise_from 0 i j (later_line_starts 0 text) (ends_rise 0 text) (λ l m. omega arith) h k

pub line_starts_rise : (text : List ℕ) → IsNonDecreasingBy (λ (start : ℕ). start) (line_starts text)
line_starts_rise text = IsNonDecreasingBy-from_default (λ start. start) (line_starts text) 0
    (λ i j h k. starts_rise text i j h k)

-- as many of them are not after an offset as line ends stand before it

none_so_far : (at offset : ℕ) (bytes : List ℕ) → offset ≤ at
    → count_by (λ start. leb start offset) (later_line_starts at bytes) ≡ 0
none_so_far at offset [] h = refl
none_so_far at offset (b ∷ others) h =
    let starts : List ℕ = later_line_starts (at + 1) others in
    let later : count_by (λ start. leb start offset) starts ≡ 0 = none_so_far (at + 1) offset others (omega arith) in
    let no : leb (at + 1) offset ≡ false = grind (arith, nat_tests) in
    elim (is_line_end b) as (λ t. count_by (λ start. leb start offset) (cond t ((at + 1) ∷ starts) starts) ≡ 0) [
      | true ↦ sum_by-cons (λ start. cond {A = ℕ} (leb start offset) 1 0) (at + 1) starts ∙ rw (no, later) refl
      | false ↦ later
    ]

counted_from : (at more offset : ℕ) (bytes : List ℕ) → offset ≡ at + more
    → count_by (λ start. leb start offset) (later_line_starts at bytes) ≡ count_by is_line_end (take more bytes)
counted_from at more offset [] e =
    elim more as (λ m. 0 ≡ count_by is_line_end (take m [])) [ zero ↦ refl | suc m ↦ refl ]
counted_from at zero offset (b ∷ others) e = none_so_far at offset (b ∷ others) (omega arith)
counted_from at (suc more) offset (b ∷ others) e =
    let starts : List ℕ = later_line_starts (at + 1) others in
    let later : count_by (λ start. leb start offset) starts ≡ count_by is_line_end (take more others) =
    counted_from (at + 1) more offset others (omega arith) in
    let yes : leb (at + 1) offset ≡ true = grind (arith, nat_tests) in
    sym (sum_by-cons (λ c. cond {A = ℕ} (is_line_end c) 1 0) b (take more others)
    ∙ elim (is_line_end b) as
    (λ t. cond {A = ℕ} t 1 0 + count_by is_line_end (take more others)
    ≡ count_by (λ start. leb start offset) (cond t ((at + 1) ∷ starts) starts)) [
      | true ↦ sym (sum_by-cons (λ start. cond {A = ℕ} (leb start offset) 1 0) (at + 1) starts ∙ rw (yes, later) refl)
      | false ↦ omega (arith, later)
    ])

count_at_point : (offset count : ℕ) (starts : List ℕ) → count ≤ length starts
    → IsPartitionPoint (λ start. start ≤ offset) (λ start. offset < start) starts count
    → count_by (λ start. leb start offset) starts ≡ count
count_at_point offset count [] h p = omega arith
count_at_point offset zero (s ∷ starts) h p =
    let after : offset < s = p.1 0 0 (omega arith) (omega arith) in
    let no : leb s offset ≡ false = grind (arith, nat_tests) in
    sum_by-cons (λ start. cond {A = ℕ} (leb start offset) 1 0) s starts
    ∙ rw (
      no,
      count_at_point offset 0 starts (omega arith)
          (λ k d low high. absurd (omega arith), λ k d low high. p.1 (suc k) d (omega arith) (omega arith)),
    ) refl
count_at_point offset (suc count) (s ∷ starts) h p =
    let before : s ≤ offset = p.0 0 0 (omega arith) (omega arith) in
    let yes : leb s offset ≡ true = grind (arith, nat_tests) in
    sum_by-cons (λ start. cond {A = ℕ} (leb start offset) 1 0) s starts
    ∙ rw (
      yes,
      count_at_point offset count starts (omega arith) (
        λ k d low high. p.0 (suc k) d (omega arith) (omega arith),
        λ k d low high. p.1 (suc k) d (omega arith) (omega arith),
      ),
    ) (omega arith)

-- the line of an offset

pub record IsLineAt (text : List ℕ) (offset line : ℕ) : Type 0 where
  pub within : line < length (line_starts text)
  pub parted : IsPartitionPoint (λ start. start ≤ offset) (λ start. offset < start) (line_starts text) (line + 1)

pub line_of-is : (text : List ℕ) (offset line : ℕ) → IsLineAt text offset line → line_of text offset ≡ line
line_of-is text offset line h =
    let all = count_at_point offset (line + 1) (line_starts text) (omega (arith, h.within)) h.parted in
    let split = sum_by-cons (λ start. cond {A = ℕ} (leb start offset) 1 0) 0 (later_line_starts 0 text) in
    let later = counted_from 0 offset offset text (omega arith) in
    let first : leb 0 offset ≡ true = grind (arith, nat_tests) in
    let one : cond {A = ℕ} (leb 0 offset) 1 0 ≡ 1 = rw first refl in
    omega (arith, all, split, later, one)

pub start-le : (text : List ℕ) (offset line : ℕ) → IsLineAt text offset line → get_or (line_starts text) line 0 ≤ offset
start-le text offset line h = h.parted.0 line 0 (omega arith) (omega arith)

at_its_start : (text : List ℕ) (offset line : ℕ) → IsLineAt text offset line
    → IsLineAt text (get_or (line_starts text) line 0) line
at_its_start text offset line h = record {
  within = h.within;
  parted = (
    λ k d low high. let same = get_or_default (line_starts text) line d 0 h.within in
        omega (arith, line_starts_rise text k line d (omega arith) h.within),
    λ k d low high. omega (arith, start-le text offset line h, h.parted.1 k d low high),
  );
}

-- the line whose start isn't behind an offset, if the next one's is
pub line_by_next : (text : List ℕ) (offset line : ℕ) → line < length (line_starts text)
    → get_or (line_starts text) line 0 ≤ offset
    → (line + 1 < length (line_starts text) → offset < get_or (line_starts text) (line + 1) 0)
    → IsLineAt text offset line
line_by_next text offset line within low next = record {
  within = within;
  parted = (
    λ k d from upto. let same = get_or_default (line_starts text) line d 0 within in
        omega (arith, line_starts_rise text k line d (omega arith) within, same, low),
    λ k d from upto. let there : line + 1 < length (line_starts text) = omega arith in
        let same = get_or_default (line_starts text) (line + 1) d 0 there in
        omega (arith, line_starts_rise text (line + 1) k d (omega arith) (omega arith), same, next there),
  );
}

-- an offset further on has no fewer line ends before it
pub more_lines : (text : List ℕ) (i j : ℕ) → i ≤ j → line_of text i ≤ line_of text j
more_lines text i j h =
    subst (λ (xs : List ℕ). count_by is_line_end xs ≤ line_of text j) (take-take i j text h)
    (sum_by-take-le (λ c. cond {A = ℕ} (is_line_end c) 1 0) (take j text) i)

-- no line end stands between the start of the line and the offset
none_between : (text : List ℕ) (offset line k : ℕ) → IsLineAt text offset line → get_or (line_starts text) line 0 ≤ k
    → k < offset → offset ≤ length text
    → not (is_line_end (get_or text k 0)) ≡ true
none_between text offset line k h low high inside =
    elim (is_line_end (get_or text k 0)) as (λ t. is_line_end (get_or text k 0) ≡ t → not t ≡ true) [
      | true ↦ λ e.
          let start = line_of-is text (get_or (line_starts text) line 0) line (at_its_start text offset line h) in
          let here = line_of-is text offset line h in
          let one_more = count_by_more_yes is_line_end text k 0 (omega arith) e in
          let before = more_lines text (get_or (line_starts text) line 0) k low in
          let after = more_lines text (k + 1) offset (omega arith) in
          absurd (omega (arith, start, here, one_more, before, after))
      | false ↦ λ e. refl
    ] refl

-- a line end stands before the start of the line
end_before : (text : List ℕ) (line : ℕ) → line < length (line_starts text) → 0 < get_or (line_starts text) line 0
    → is_line_end (get_or text (get_or (line_starts text) line 0 - 1) 0) ≡ true
end_before text zero h some = absurd (omega arith)
end_before text (suc line) h some =
    let e = each_after 0 line text (omega arith) in
    let index : get_or (later_line_starts 0 text) line 0 - 1 ≡ e.index = omega (arith, e.counted) in
    rw index e.ends

-- what stands before an offset on its line begins at the line's start
line_before-is : (text : List ℕ) (offset line : ℕ) → IsLineAt text offset line → offset ≤ length text
    → line_before text offset
    ≡ take (offset - get_or (line_starts text) line 0) (drop (get_or (line_starts text) line 0) text)
line_before-is text offset line h inside =
    let start : ℕ = get_or (line_starts text) line 0 in
    let front : length (take offset text) ≡ offset = omega (arith, length-take offset text) in
    let least : start ≤ offset = start-le text offset line h in
    let len : suffix_len (λ c. not (is_line_end c)) (take offset text) ≡ length (take offset text) - start =
    suffix_len_is (λ c. not (is_line_end c)) (take offset text) start 0 (omega arith)
    (λ k low high. let before : k < offset = omega arith in
    rw (get_or-take offset text k 0 before) (none_between text offset line k h low before inside))
    (λ some. let before : start - 1 < offset = omega arith in
    rw (get_or-take offset text (start - 1) 0 before, end_before text line h.within some) refl) in
    let back : length (take offset text) - (length (take offset text) - start) ≡ start = omega arith in
    let whole : start + (offset - start) ≡ offset = omega arith in
    rw (len, back) (ap (λ k. drop start (take k text)) (sym whole) ∙ drop-take start (offset - start) text)

pub position_of-is : (encoding : Encoding) (text : List ℕ) (offset line column : ℕ) → IsLineAt text offset line
    → offset ≤ length text
    → column ≡ sum_by (code_units encoding)
    (take (offset - get_or (line_starts text) line 0) (drop (get_or (line_starts text) line 0) text))
    → (let p : Position = record { line = line; column = column } in p) ≡ position_of encoding text offset
position_of-is encoding text offset line column h inside e =
    let columns : column ≡ sum_by (code_units encoding) (line_before text offset) =
    e ∙ ap (sum_by (code_units encoding)) (sym (line_before-is text offset line h inside)) in
    let lines : line ≡ line_of text offset = sym (line_of-is text offset line h) in
    rw (columns, lines) refl

pub line-fits : (text : List ℕ) (offset line : ℕ) → IsLineAt text offset line → line ≤ offset
line-fits text offset line h =
    omega (
      arith,
      line_of-is text offset line h,
      count_by-le-length is_line_end (take offset text),
      length-take offset text,
    )

-- where a search splits the starts at an offset, its line ends

first_is_not_after : (offset : ℕ) → leb 0 offset ≡ false → ⊥
first_is_not_after offset e = grind (arith, nat_tests)

some_before : (text : List ℕ) (offset count : ℕ)
    → IsPartitionPoint (λ start. leb start offset ≡ true) (λ start. leb start offset ≡ false) (line_starts text) count
    → 1 ≤ count
some_before text offset zero p = absurd (first_is_not_after offset (p.1 0 0 (omega arith) (omega arith)))
some_before text offset (suc count) p = omega arith

pub line_at_point : (text starts : List ℕ) (offset count : ℕ) → starts ≡ line_starts text → count ≤ length starts
    → IsPartitionPoint (λ start. leb start offset ≡ true) (λ start. leb start offset ≡ false) starts count
    → (1 ≤ count) × IsLineAt text offset (count - 1)
line_at_point text starts offset count e h p =
    let q = subst (λ (xs : List ℕ). IsPartitionPoint (λ start. leb start offset ≡ true)
    (λ start. leb start offset ≡ false) xs count) e p in
    let long : length starts ≡ length (line_starts text) = ap length e in
    let some : 1 ≤ count = some_before text offset count q in (
      some,
      record {
        within = omega arith;
        parted = (
          λ k d low high. leb-true _ _ (q.0 k d low (omega arith)),
          λ k d low high. leb-false _ _ (q.1 k d (omega arith) high),
        );
      },
    )
