-- The last piece, and the last byte of a text.
use Rattle.std.proofs.Common.{◌≡◌, ◌∙◌, ◌⊎◌, inl, inr, ℕ, List, [], ◌∷◌, ◌++◌, length, refl, sym, ap, subst}
use Rattle.std.proofs.Common.{append_assoc, length-append, arith}
use Rattle.std.proofs.lemmas.List.{append-nil}
use Rattle.globs.specs.declared.piece.Piece.{Piece}
use Rattle.globs.specs.Pieces.{MayBeEmpty, Begins, GoesOn, Takes, nothing, begins, goes_on, Matches, at_end, next_piece}

-- ---- the last piece

last_piece : {piece : Piece} {pieces : List Piece} {front part : List ℕ} → Matches pieces front → Takes piece part
    → Matches (pieces ++ piece ∷ []) (front ++ part)
last_piece {piece = piece} {part = part} at_end last =
    subst (Matches (piece ∷ [])) (append-nil part) (next_piece last at_end)
last_piece {piece = piece} {part = part} (next_piece {piece = first} {pieces = pieces} {part = taken} {rest = rest} takes
    matches) last =
    subst (Matches (first ∷ (pieces ++ piece ∷ []))) (sym (append_assoc taken rest part))
    (next_piece takes (last_piece matches last))

pub record Next (piece : Piece) (pieces : List Piece) (text : List ℕ) : Type 0 where
  pub part : List ℕ
  pub rest : List ℕ
  pub takes : Takes piece part
  pub matches : Matches pieces rest
  pub text_is : text ≡ part ++ rest

pub next_of : {piece : Piece} {pieces : List Piece} {text : List ℕ} → Matches (piece ∷ pieces) text
    → Next piece pieces text
next_of (next_piece {part = part} {rest = rest} takes matches) =
    record { part = part; rest = rest; takes = takes; matches = matches; text_is = refl }

pub none_of : {text : List ℕ} → Matches [] text → text ≡ []
none_of at_end = refl

record Last (piece : Piece) (pieces : List Piece) (text : List ℕ) : Type 0 where
  front : List ℕ
  part : List ℕ
  matches : Matches pieces front
  takes : Takes piece part
  text_is : text ≡ front ++ part

last_of : (pieces : List Piece) {piece : Piece} {text : List ℕ} → Matches (pieces ++ piece ∷ []) text
    → Last piece pieces text
last_of [] matches =
    let one = next_of matches in
    record {
      front = [];
      part = one.part;
      matches = at_end;
      takes = one.takes;
      text_is = one.text_is ∙ (ap (λ (l : List ℕ). one.part ++ l) (none_of one.matches) ∙ append-nil one.part);
    }
last_of (first ∷ pieces) matches =
    let one = next_of matches in
    let last = last_of pieces one.matches in
    record {
      front = one.part ++ last.front;
      part = last.part;
      matches = next_piece one.takes last.matches;
      takes = last.takes;
      text_is =
          one.text_is
          ∙ (ap (λ (l : List ℕ). one.part ++ l) last.text_is ∙ sym (append_assoc one.part last.front last.part));
    }

-- ---- the last byte

abbrev pub first_of : List ℕ → ℕ
first_of [] = 0
first_of (byte ∷ bytes) = byte

abbrev pub rest_of : List ℕ → List ℕ
rest_of [] = []
rest_of (byte ∷ bytes) = bytes

same_ends : (xs ys : List ℕ) (x y : ℕ) → xs ++ x ∷ [] ≡ ys ++ y ∷ [] → (xs ≡ ys) × (x ≡ y)
same_ends [] [] x y same = (refl, ap first_of same)
same_ends [] (b ∷ ys) x y same =
    absurd (omega (arith, ap (λ (l : List ℕ). length l) same, length-append ys (y ∷ [])))
same_ends (a ∷ xs) [] x y same =
    absurd (omega (arith, ap (λ (l : List ℕ). length l) same, length-append xs (x ∷ [])))
same_ends (a ∷ xs) (b ∷ ys) x y same =
    let rest = same_ends xs ys x y (ap rest_of same) in
    (ap (λ (l : List ℕ). a ∷ l) rest.0 ∙ ap (λ (c : ℕ). c ∷ ys) (ap first_of same), rest.1)

module _ (piece : Piece) (pieces : List Piece) where
  -- the pieces and this one behind them
  abbrev with_it : List Piece
  with_it = pieces ++ piece ∷ []

  -- how a text with one byte more matches them
  abbrev pub Ends : (text : List ℕ) → (byte : ℕ) → Type 0
  Ends text byte =
      (Matches pieces text × Begins piece byte)
      ⊎ ((Matches with_it text × GoesOn piece byte) ⊎ (Matches pieces (text ++ byte ∷ []) × MayBeEmpty piece))

  longer : (text : List ℕ) (byte : ℕ) → Matches with_it text → GoesOn piece byte
      → Matches with_it (text ++ byte ∷ [])
  longer text byte matches goes =
      let last = last_of pieces matches in
      subst (Matches with_it)
      (sym (append_assoc last.front last.part (byte ∷ [])) ∙ ap (λ (l : List ℕ). l ++ byte ∷ []) (sym last.text_is))
      (last_piece last.matches (goes_on byte last.takes goes))

  pub ends_to : (text : List ℕ) (byte : ℕ) → Ends text byte → Matches with_it (text ++ byte ∷ [])
  ends_to text byte ends = elim ends [
    | inl new ↦ last_piece new.0 (begins new.1)
    | inr other ↦ elim other [
      | inl more ↦ longer text byte more.0 more.1
      | inr empty ↦ subst (Matches with_it) (append-nil (text ++ byte ∷ [])) (last_piece empty.0 (nothing empty.1))
    ]
  ]

  ending : {front part : List ℕ} (text : List ℕ) (byte : ℕ) → Matches pieces front → Takes piece part
      → text ++ byte ∷ [] ≡ front ++ part → Ends text byte
  ending {front = front} text byte matches (nothing empty) is =
      inr (inr (subst (Matches pieces) (sym (is ∙ append-nil front)) matches, empty))
  ending {front = front} text byte matches (begins {byte = first} new) is =
      let same = same_ends text front byte first is in
      inl (subst (Matches pieces) (sym same.0) matches, subst (Begins piece) (sym same.1) new)
  ending {front = front} text byte matches (goes_on {part = part} later takes goes) is =
      let same = same_ends text (front ++ part) byte later (is ∙ sym (append_assoc front part (later ∷ []))) in
      inr (inl (subst (Matches with_it) (sym same.0) (last_piece matches takes), subst (GoesOn piece) (sym same.1) goes))

  pub ends_from : (text : List ℕ) (byte : ℕ) → Matches with_it (text ++ byte ∷ []) → Ends text byte
  ends_from text byte matches =
      let last = last_of pieces matches in ending text byte last.matches last.takes last.text_is

  -- ---- the empty text

  pub empty_to : Matches pieces [] → MayBeEmpty piece → Matches with_it []
  empty_to matches empty = last_piece matches (nothing empty)

  beginning : {front part : List ℕ} → Matches pieces front → Takes piece part → [] ≡ front ++ part
      → Matches pieces [] × MayBeEmpty piece
  beginning {front = front} matches (nothing empty) is =
      (subst (Matches pieces) (sym (is ∙ append-nil front)) matches, empty)
  beginning {front = front} matches (begins {byte = first} new) is =
      absurd (omega (arith, ap (λ (l : List ℕ). length l) is, length-append front (first ∷ [])))
  beginning {front = front} matches (goes_on {part = part} later takes goes) is =
      absurd (omega (
        arith,
        ap (λ (l : List ℕ). length l) is,
        length-append front (part ++ later ∷ []),
        length-append part (later ∷ []),
      ))

  pub empty_from : Matches with_it [] → Matches pieces [] × MayBeEmpty piece
  empty_from matches = let last = last_of pieces matches in beginning last.matches last.takes last.text_is
