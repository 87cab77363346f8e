-- How many of a list in order begin before an offset, known by the last that does and the first that doesn't.
use Rattle.std.proofs.Common.{◌≡◌, ℕ, ◌+◌, ◌-◌, ◌<◌, ◌≤◌, true, ltb, List, length, get_or, map, arith}
use Rattle.std.specs.List.{AllWithin}
use Rattle.std.specs.List.Sorted.{IsPartitionPoint}
use Rattle.std.proofs.lemmas.List.{get_or_default}
use Rattle.std.proofs.lemmas.Bool.{ltb-true}
use Rattle.proto_lex.specs.declared.span.Span.{Span}
use Rattle.proto_lex.specs.Lexed.{AreInOrder}
use Rattle.proto_decl.proofs.LayoutLineLemmas.{starts_rise}

module _ {X : Type 0} (span : X → Span) (offset count : ℕ) (xs : List X) where
  -- the first ones, so many, begin before the offset
  abbrev Begin : ℕ → Type 0
  Begin n = AllWithin (λ x. (span x).start < offset) xs 0 n

  module _ (ordered : AreInOrder 0 (map span xs)) where
    -- they do if the last one does
    pub begin_by_last : (d : X) → 0 < count → count ≤ length xs
        → ltb (span (get_or xs (count - 1) d)).start offset ≡ true
        → Begin count
    begin_by_last d some within is k e low high =
        let last = ltb-true _ _ is in
        let same = get_or_default xs (count - 1) d e (omega arith) in
        let last' = rw same at last in
        omega (arith, last', starts_rise span 0 k (count - 1) e xs ordered (omega arith) (omega arith))

    -- the one behind them begins at the offset or behind it
    pub parted_by_next : (d : X) → count < length xs → Begin count
        → offset ≤ (span (get_or xs count d)).start
        → IsPartitionPoint (λ x. (span x).start < offset) (λ x. offset ≤ (span x).start) xs count
    parted_by_next d within begin next = (
      begin,
      λ k e low high.
          let next' = rw (get_or_default xs count d e within) at next in
          omega (arith, next', starts_rise span 0 count k e xs ordered low high),
    )

    -- or before it, and so they are one more
    pub one_more : (d : X) → count < length xs → (span (get_or xs count d)).start < offset
        → Begin (count + 1)
    one_more d within next k e low high =
        let next' = rw (get_or_default xs count d e within) at next in
        omega (arith, next', starts_rise span 0 k count e xs ordered (omega arith) within)

    -- they are all
    pub parted_at_end : length xs ≤ count → Begin count
        → IsPartitionPoint (λ x. (span x).start < offset) (λ x. offset ≤ (span x).start) xs count
    parted_at_end end begin = (begin, λ k e low high. absurd (omega (arith, end)))
