-- One byte more of a row, and one piece more.
use Rattle.std.proofs.Common.{◌≡◌, ◌∙◌, ◌⊎◌, ◌↔◌, inl, inr, ℕ, ◌+◌, ◌<◌, ◌≤◌, Bool, true, false, IsTrue, List, []}
use Rattle.std.proofs.Common.{◌∷◌, ◌++◌, length, take, get_or, refl, sym, ap, subst, length-append, arith}
use Rattle.std.proofs.lemmas.Bool.{ltb-true, ltb-false, false≢true}
use Rattle.std.proofs.lemmas.List.{get_or_append_left, get_or_default, get_or_push, length-take-le, take_more, take_all}
use Rattle.globs.specs.declared.piece.Piece.{Piece}
use Rattle.globs.specs.Pieces.{MayBeEmpty, Begins, GoesOn, Matches, at_end}
use Rattle.globs.specs.Rows.{IsFront, AreRow}
use Rattle.globs.proofs.PieceMatchLemmas.{none_of, ends_to, ends_from, empty_to, empty_from}
use lib.Dec.{ltb}

-- whether the text up to so many bytes matches, at its place in a row
abbrev Says : List Piece → List ℕ → List Bool → ℕ → Type 0
Says pieces text row number = IsTrue (get_or row number false) ↔ Matches pieces (take number text)

pub front_begins : (pieces : List Piece) (text : List ℕ) (first : Bool) → (IsTrue first ↔ Matches pieces [])
    → IsFront pieces text 0 (first ∷ [])
front_begins pieces text first is = record {
  long = refl;
  each = λ number low.
      let none : 0 ≡ number = omega (arith, low) in subst (Says pieces text (first ∷ [])) none is;
}

pub front_more : (pieces : List Piece) (text : List ℕ) (row : List Bool) (count : ℕ) (now : Bool)
    → IsFront pieces text count row → (IsTrue now ↔ Matches pieces (take (count + 1) text))
    → IsFront pieces text (count + 1) (row ++ now ∷ [])
front_more pieces text row count now front is = record {
  long = omega (arith, front.long, length-append row (now ∷ []));
  each = λ number low. go number low (ltb number (count + 1)) refl;
}
  where
    go : (number : ℕ) → number ≤ count + 1 → (less : Bool) → ltb number (count + 1) ≡ less
        → Says pieces text (row ++ now ∷ []) number
    go number low true less =
        let within : number < count + 1 = ltb-true _ _ less in
        let same = get_or_append_left row (now ∷ []) false number (omega (arith, within, front.long)) in
        subst (λ (b : Bool). IsTrue b ↔ Matches pieces (take number text)) (sym same)
        (front.each number (omega (arith, within)))
    go number low false less =
        let last : count + 1 ≡ number = omega (arith, low, ltb-false _ _ less) in
        let same = get_or_push row now false (count + 1) front.long in
        subst (Says pieces text (row ++ now ∷ [])) last
        (subst (λ (b : Bool). IsTrue b ↔ Matches pieces (take (count + 1) text)) (sym same) is)

-- no pieces are matched by the empty text alone
pub none_begins : (text : List ℕ) → IsFront [] text 0 (true ∷ [])
none_begins text = front_begins [] text true ((λ yes. at_end), (λ matches. refl))

pub none_more : (text : List ℕ) (row : List Bool) (count : ℕ) → count < length text → IsFront [] text count row
    → IsFront [] text (count + 1) (row ++ false ∷ [])
none_more text row count within front =
    front_more [] text row count false front (
      (λ yes. absurd (false≢true yes)),
      (λ matches.
          let none = ap (λ (l : List ℕ). length l) (none_of matches) in
          absurd (omega (arith, none, within, length-take-le (count + 1) text (omega (arith, within))))),
    )

-- what is so far of a row with one piece more, by the row without
abbrev pub IsNext : (piece : Piece) (text : List ℕ) (row : List Bool) (count : ℕ) (all : Bool) → List Bool → Type 0
IsNext piece text row count all next =
    (pieces : List Piece) → AreRow pieces text row
    → IsFront (pieces ++ piece ∷ []) text count next
    × (IsTrue all ↔ Matches (pieces ++ piece ∷ []) (take count text))

pub next_begins : (piece : Piece) (text : List ℕ) (reached : List Bool) (all given : Bool)
    → (IsTrue all ↔ (IsTrue (get_or reached 0 given) × MayBeEmpty piece)) → IsNext piece text reached 0 all (all ∷ [])
next_begins piece text reached all given both =
    λ pieces are.
    let here : IsTrue (get_or reached 0 given) ↔ Matches pieces [] =
    subst (λ (b : Bool). IsTrue b ↔ Matches pieces [])
    (get_or_default reached 0 false given (omega (arith, are.long))) (are.each 0 (omega arith)) in
    let whole : IsTrue all ↔ Matches (pieces ++ piece ∷ []) [] = (
      (λ yes.
          let parts = both.0 yes in empty_to piece pieces (here.0 parts.0) parts.1),
      (λ matches.
          let parts = empty_from piece pieces matches in both.1 (here.1 parts.0, parts.1)),
    ) in
    (front_begins (pieces ++ piece ∷ []) text all whole, whole)

pub next_more : (piece : Piece) (text : List ℕ) (row next : List Bool) (count : ℕ) (all now : Bool)
    (given : ℕ) (one other : Bool) → count < length text
    → (IsTrue now ↔ ((IsTrue (get_or row count one) × Begins piece (get_or text count given))
    ⊎ ((IsTrue all × GoesOn piece (get_or text count given))
    ⊎ (IsTrue (get_or row (count + 1) other) × MayBeEmpty piece))))
    → IsNext piece text row count all next → IsNext piece text row (count + 1) now (next ++ now ∷ [])
next_more piece text row next count all now given one other within ends so_far =
    λ pieces are.
    let byte = get_or text count given in
    let done = so_far pieces are in
    let whole = pieces ++ piece ∷ [] in
    let parts : take (count + 1) text ≡ take count text ++ byte ∷ [] = take_more text count given within in
    let front : IsTrue (get_or row count one) ↔ Matches pieces (take count text) =
    subst (λ (b : Bool). IsTrue b ↔ Matches pieces (take count text))
    (get_or_default row count false one (omega (arith, are.long, within)))
    (are.each count (omega (arith, within))) in
    let longer : IsTrue (get_or row (count + 1) other) ↔ Matches pieces (take count text ++ byte ∷ []) =
    subst (λ (l : List ℕ). IsTrue (get_or row (count + 1) other) ↔ Matches pieces l) parts
    (subst (λ (b : Bool). IsTrue b ↔ Matches pieces (take (count + 1) text))
    (get_or_default row (count + 1) false other (omega (arith, are.long, within)))
    (are.each (count + 1) (omega (arith, within)))) in
    let here : IsTrue now ↔ Matches whole (take count text ++ byte ∷ []) = (
      (λ yes. ends_to piece pieces (take count text) byte (elim (ends.0 yes) [
        | inl new ↦ inl (front.0 new.0, new.1)
        | inr other ↦ elim other [
          | inl more ↦ inr (inl (done.1.0 more.0, more.1))
          | inr empty ↦ inr (inr (longer.0 empty.0, empty.1))
        ]
      ])),
      (λ matches. ends.1 (elim (ends_from piece pieces (take count text) byte matches) [
        | inl new ↦ inl (front.1 new.0, new.1)
        | inr other ↦ elim other [
          | inl more ↦ inr (inl (done.1.1 more.0, more.1))
          | inr empty ↦ inr (inr (longer.1 empty.0, empty.1))
        ]
      ])),
    ) in
    let last = subst (λ (l : List ℕ). IsTrue now ↔ Matches whole l) (sym parts) here in
    (front_more whole text next count now done.0 last, last)

-- the last place of a row
pub row_ends : (pieces : List Piece) (text : List ℕ) (row : List Bool) (last : Bool) → AreRow pieces text row
    → last ≡ get_or row (length text) last → (IsTrue last ↔ Matches pieces text)
row_ends pieces text row last are is =
    subst (λ (l : List ℕ). IsTrue last ↔ Matches pieces l) (take_all (length text) text (omega arith))
    (subst (λ (b : Bool). IsTrue b ↔ Matches pieces (take (length text) text))
    (get_or_default row (length text) false last (omega (arith, are.long)) ∙ sym is)
    (are.each (length text) (omega arith)))

-- the row of all pieces, which as many as there are make
pub all_pieces : (pieces : List Piece) (text : List ℕ) (row : List Bool) (count : ℕ) → length pieces ≤ count
    → AreRow (take count pieces) text row → AreRow pieces text row
all_pieces pieces text row count all are =
    subst (λ (l : List Piece). AreRow l text row) (take_all count pieces all) are
