-- The lists that make up a document's occurrences have what they give, and ascend.
use Rattle.std.proofs.Common.{◌≡◌, ◌∙◌, sym, ap, refl, subst, inl, inr, ℕ, zero, suc, ◌+◌, ◌<◌, ◌≤◌, Some, List}
use Rattle.std.proofs.Common.{[], ◌∷◌, ◌++◌, length, arith, drop, ⊎_elim}
use Rattle.std.specs.List.{All, AllByRecursion, Contains, slice_get, flat_map}
use Rattle.std.specs.declared.cmp.Ordering.{Ordering}
use Rattle.std.specs.declared.cmp.Ordering.TheVariants.{Less}
use Rattle.std.specs.Ordering.{nat_cmp, ordering_then}
use Rattle.std.specs.Cmp.Lexicographic.{slice_cmp}
use Rattle.std.specs.List.Sorted.{IsStrictlySortedBy}
use Rattle.std.proofs.lemmas.List.Elements.{All-head, All-tail, Contains-append_left, Contains-append_right}
use Rattle.std.proofs.lemmas.List.Elements.{Contains-append_cases}
use Rattle.proto_lex.specs.declared.span.Span.{Span}
use Rattle.proto_lex.specs.Lexed.{IsPart, AreInOrder}
use Rattle.proto_lex.specs.Position.{position_of}
use Rattle.proto_lex.specs.PositionLaws.{CharactersRise}
use Rattle.proto_lex.specs.declared.position.Encoding.{Encoding}
use Rattle.scip_records.specs.Range.{RangeNumbers}
use Rattle.scip_records.specs.declared.records.Occurrence.{Occurrence}
use Rattle.scip_model.specs.Occurs.{range_over}
use Rattle.scip_model.specs.OccurrenceOrder.{occurrence_cmp}
use Rattle.scip_model.specs.Tables.Listing.{each_from}
use Rattle.std.proofs.lemmas.List.{append_assoc, append-nil, length-drop, nil_from_length}
use Rattle.std.proofs.lemmas.Bool.{cases_order}
use Rattle.std.proofs.lemmas.Bool.Decides.{nat_tests}
use Rattle.std.proofs.lemmas.Option.{none-some}
use Rattle.scip_model.proofs.MergeLemmas.{not_in_none}

-- what a list gives, item by item

pub record IsGiven {A B : Type 0} (gives : ℕ → A → List B) (index : ℕ) (xs : List A) (o : B) : Type 0 where
  pub at : ℕ
  pub item : A
  pub item_is : slice_get xs at ≡ Some item
  pub given : Contains (gives (index + at) item) o

module _ {A B : Type 0} (gives : ℕ → A → List B) where
  later : (index : ℕ) (x : A) (xs : List A) (o : B) → IsGiven gives (index + 1) xs o → IsGiven gives index (x ∷ xs) o
  later index x xs o g = record {
    at = suc g.at;
    item = g.item;
    item_is = g.item_is;
    given = let e : index + suc g.at ≡ index + 1 + g.at = omega arith in rw e g.given;
  }

  pub given_by : (index : ℕ) (xs : List A) (o : B) → Contains (each_from gives index xs) o → IsGiven gives index xs o
  given_by index [] o h = absurd (not_in_none o h)
  given_by index (x ∷ xs) o h =
      ⊎_elim (λ first. record {
        at = zero;
        item = x;
        item_is = refl;
        given = let e : index + 0 ≡ index = omega arith in
            rw e first;
      })
      (λ others. later index x xs o (given_by (index + 1) xs o others))
      (Contains-append_cases (gives index x) (each_from gives (index + 1) xs) o h)

  pub gives_it : (index : ℕ) (xs : List A) (o : B) (at : ℕ) (item : A) → slice_get xs at ≡ Some item
      → Contains (gives (index + at) item) o → Contains (each_from gives index xs) o
  gives_it index [] o at item e h = absurd (none-some _ e)
  gives_it index (x ∷ xs) o zero item e h =
      let same : x ≡ item = cc in
      let first : index + 0 ≡ index = omega arith in
      Contains-append_left (gives index x) (each_from gives (index + 1) xs) o
      (subst (λ (n : ℕ). Contains (gives n x) o) first
      (subst (λ (y : A). Contains (gives (index + 0) y) o) (sym same) h))
  gives_it index (x ∷ xs) o (suc at) item e h =
      let next : index + suc at ≡ index + 1 + at = omega arith in
      Contains-append_right (gives index x) (each_from gives (index + 1) xs) o
      (gives_it (index + 1) xs o at item e (subst (λ (n : ℕ). Contains (gives n item) o) next h))

-- what an item adds to what those before it gave
module _ {A B : Type 0} (gives : ℕ → A → List B) where
  each_more : (from : ℕ) (xs : List A) (k : ℕ) (x : A) → slice_get xs k ≡ Some x
      → each_from gives from (drop k xs) ≡ gives from x ++ each_from gives (from + 1) (drop (k + 1) xs)
  each_more from [] k x e = absurd (none-some _ e)
  each_more from (y ∷ ys) zero x e = let same : y ≡ x = cc in
      ap (λ z. gives from z ++ each_from gives (from + 1) ys) same
  each_more from (y ∷ ys) (suc k) x e = let next : suc k + 1 ≡ suc (k + 1) = omega arith in
      rw next (each_more from ys k x e)

  pub each_added : (xs : List A) (k : ℕ) (x : A) (old new whole : List B) → slice_get xs k ≡ Some x
      → new ≡ old ++ gives k x → old ++ each_from gives k (drop k xs) ≡ whole
      → new ++ each_from gives (k + 1) (drop (k + 1) xs) ≡ whole
  each_added xs k x old new whole e added before =
      ap (λ (front : List B). front ++ each_from gives (k + 1) (drop (k + 1) xs)) added
      ∙ (append_assoc old (gives k x) (each_from gives (k + 1) (drop (k + 1) xs))
      ∙ (ap (λ (rest : List B). old ++ rest) (sym (each_more k xs k x e)) ∙ before))

  -- where all items are behind
  pub each_done : (xs : List A) (k : ℕ) (list whole : List B) → length xs ≤ k
      → list ++ each_from gives k (drop k xs) ≡ whole → list ≡ whole
  each_done xs k list whole past is =
      let none : drop k xs ≡ [] = nil_from_length (drop k xs) (omega (arith, length-drop k xs, past)) in
      sym (append-nil list) ∙ (ap (λ (rest : List A). list ++ each_from gives k rest) (sym none) ∙ is)

-- occurrences stand at some of the spans, in their order
pub data StandAt (encoding : Encoding) (text : List ℕ) : List Span → List Occurrence → Type 0 where
  none : StandAt encoding text [] []
  skip : {span : Span} {spans : List Span} {os : List Occurrence} → StandAt encoding text spans os
      → StandAt encoding text (span ∷ spans) os
  here : {span : Span} {spans : List Span} {o : Occurrence} {os : List Occurrence}
      → o.range ≡ range_over encoding text span → StandAt encoding text spans os
      → StandAt encoding text (span ∷ spans) (o ∷ os)

module _ (encoding : Encoding) (text : List ℕ) where
  pub stand_append : {spans others : List Span} {os ps : List Occurrence} → StandAt encoding text spans os
      → StandAt encoding text others ps → StandAt encoding text (spans ++ others) (os ++ ps)
  stand_append none later = later
  stand_append (skip first) later = skip (stand_append first later)
  stand_append (here e first) later = here e (stand_append first later)

  pub each_stand : {A : Type 0} (gives : ℕ → A → List Occurrence) (spans : A → List Span)
      → ((index : ℕ) (x : A) → StandAt encoding text (spans x) (gives index x))
      → (index : ℕ) (xs : List A) → StandAt encoding text (flat_map spans xs) (each_from gives index xs)
  each_stand gives spans stands index [] = none
  each_stand gives spans stands index (x ∷ xs) =
      stand_append (stands index x) (each_stand gives spans stands (index + 1) xs)

  module _ (rise : CharactersRise) where
    -- what comes after the start's line and column
    abbrev on_ends : Occurrence → Occurrence → Ordering
    on_ends o p =
        ordering_then (nat_cmp o.range.end_line p.range.end_line)
        (ordering_then (nat_cmp o.range.end_column p.range.end_column) (slice_cmp nat_cmp o.symbol p.symbol))

    abbrev on_rest : Occurrence → Occurrence → Ordering
    on_rest o p = ordering_then (nat_cmp o.range.start_column p.range.start_column) (on_ends o p)

    less_then : (a b : ℕ) (o : Ordering) → a < b → ordering_then (nat_cmp a b) o ≡ Less
    less_then a b o h = grind (arith, nat_tests)

    same_then : (a b : ℕ) (o : Ordering) → a ≡ b → o ≡ Less → ordering_then (nat_cmp a b) o ≡ Less
    same_then a b o e h = grind (arith, nat_tests)

    -- what starts earlier is less
    starts_less : (o p : Occurrence) (a b : Span) → IsPart text a → IsPart text b → a.start < b.start
        → o.range ≡ range_over encoding text a → p.range ≡ range_over encoding text b
        → occurrence_cmp o p ≡ Less
    starts_less o p a b first second less e f =
        let within : b.start ≤ length text = omega (arith, second.some, second.within) in
        let before = rise encoding text a.start b.start first.starts_whole less within in
        let o_line : o.range.start_line ≡ (position_of encoding text a.start).line =
        ap (λ (r : RangeNumbers). r.start_line) e in
        let p_line : p.range.start_line ≡ (position_of encoding text b.start).line =
        ap (λ (r : RangeNumbers). r.start_line) f in
        let o_column : o.range.start_column ≡ (position_of encoding text a.start).column =
        ap (λ (r : RangeNumbers). r.start_column) e in
        let p_column : p.range.start_column ≡ (position_of encoding text b.start).column =
        ap (λ (r : RangeNumbers). r.start_column) f in
        elim (cases_order o.range.start_line p.range.start_line) [
          | inl same ↦ same_then o.range.start_line p.range.start_line (on_rest o p) same
              (less_then o.range.start_column p.range.start_column (on_ends o p)
              (omega (arith, before.column (sym o_line ∙ (same ∙ p_line)), o_column, p_column)))
          | inr apart ↦ elim apart [
            | inl earlier ↦ less_then o.range.start_line p.range.start_line (on_rest o p) earlier
            | inr more ↦ absurd
                (omega (arith, before.line, o_line, p_line, more))
          ]
        ]

    -- each of them starts at the place or behind it
    behind : (place : ℕ) (spans : List Span) (os : List Occurrence) → AreInOrder place spans → All (IsPart text) spans
        → StandAt encoding text spans os
        → (a : Span) (o : Occurrence) → IsPart text a → o.range ≡ range_over encoding text a → a.start < place
        → AllByRecursion (λ p. occurrence_cmp o p ≡ Less) os
    behind place [] [] order parts none a o part e less = tt
    behind place [] (p ∷ os) order parts stands a o part e less = elim stands [ ]
    behind place (span ∷ spans) os order parts (skip stands) a o part e less =
        behind span.end spans os order.2 (All-tail (IsPart text) span spans parts) stands a o part e
        (omega (arith, less, order.0, order.1))
    behind place (span ∷ spans) (p ∷ os) order parts (here f stands) a o part e less = (
      starts_less o p a span part (All-head (IsPart text) span spans parts) (omega (arith, less, order.0)) e f,
      behind span.end spans os order.2 (All-tail (IsPart text) span spans parts) stands a o part e
          (omega (arith, less, order.0, order.1)),
    )

    pub ascends : (place : ℕ) (spans : List Span) (os : List Occurrence) → AreInOrder place spans
        → All (IsPart text) spans → StandAt encoding text spans os → IsStrictlySortedBy occurrence_cmp os
    unfolding IsStrictlySortedBy
    ascends place [] [] order parts none = tt
    ascends place [] (o ∷ os) order parts stands = elim stands [ ]
    ascends place (span ∷ spans) os order parts (skip stands) =
        ascends span.end spans os order.2 (All-tail (IsPart text) span spans parts) stands
    ascends place (span ∷ spans) (o ∷ os) order parts (here e stands) =
        let rest = All-tail (IsPart text) span spans parts in (
          behind span.end spans os order.2 rest stands span o (All-head (IsPart text) span spans parts) e order.1,
          ascends span.end spans os order.2 rest stands,
        )
