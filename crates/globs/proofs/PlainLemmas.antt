-- Bytes at the start of a pattern that mean themselves.
use Rattle.std.proofs.Common.{◌≡◌, ◌≢◌, ◌∙◌, ◌↔◌, ℕ, Bool, true, false, nat_eq, List, [], ◌∷◌, ◌++◌, length, refl, sym}
use Rattle.std.proofs.Common.{ap, subst, arith, get_or, take, drop, ◌-◌, ◌<◌, ◌≤◌}
use Rattle.std.proofs.lemmas.List.{take_all}
use Rattle.std.specs.Prelude.{if◌then◌else◌, ◌&&◌}
use Rattle.std.proofs.lemmas.Bool.Decides.{nat_tests}
use Rattle.globs.specs.declared.piece.Piece.{Piece}
use Rattle.globs.specs.declared.piece.Piece.TheVariants.{Byte, One, Run, Any}
use Rattle.globs.specs.Pieces.{IsPlain, IsSpelled, Takes, nothing, begins, goes_on, Matches, next_piece, single, spelled}
use Rattle.globs.proofs.PieceMatchLemmas.{first_of, next_of, rest_of}

-- ---- what a pattern spells by one

other_byte : (byte sign : ℕ) → byte ≢ sign → nat_eq byte sign ≡ false
other_byte byte sign other = go (nat_eq byte sign) refl
  where
    go : (test : Bool) → nat_eq byte sign ≡ test → nat_eq byte sign ≡ false
    go true is = let same : byte ≡ sign = grind (arith, nat_tests) in absurd (other same)
    go false is = is

single_plain : (byte : ℕ) → IsPlain byte → single byte ≡ Byte byte
single_plain byte plain =
    subst (λ t. (if t then Run else if nat_eq byte 63 then One else Byte byte) ≡ Byte byte)
    (sym (other_byte byte 42 plain.0))
    (subst (λ t. (if t then One else Byte byte) ≡ Byte byte) (sym (other_byte byte 63 plain.1)) refl)

spelled_plain : (byte : ℕ) (rest : List ℕ) → IsPlain byte → spelled (byte ∷ rest) ≡ Byte byte ∷ spelled rest
spelled_plain byte [] plain = ap (λ (piece : Piece). piece ∷ []) (single_plain byte plain)
spelled_plain byte (next ∷ rest) plain =
    subst (λ t. (if t && nat_eq next 42 then Any ∷ spelled rest else single byte ∷ spelled (next ∷ rest))
    ≡ Byte byte ∷ spelled (next ∷ rest)) (sym (other_byte byte 42 plain.0))
    (ap (λ (piece : Piece). piece ∷ spelled (next ∷ rest)) (single_plain byte plain))

-- ---- what begins with it

byte_takes : {byte : ℕ} {part : List ℕ} → Takes (Byte byte) part → part ≡ byte ∷ []
byte_takes (nothing none) = absurd none
byte_takes (begins is) = ap (λ (b : ℕ). b ∷ []) is
byte_takes (goes_on later takes none) = absurd none

-- a text that such a pattern spells
behind : (byte : ℕ) (pattern text : List ℕ) → IsPlain byte → IsSpelled (byte ∷ pattern) text
    → (rest : List ℕ) × (text ≡ byte ∷ rest) × IsSpelled pattern rest
behind byte pattern text plain is =
    let one = next_of (subst (λ (pieces : List Piece). Matches pieces text) (spelled_plain byte pattern plain) is) in
    (one.rest, one.text_is ∙ ap (λ (l : List ℕ). l ++ one.rest) (byte_takes one.takes), one.matches)

plain_same : (byte : ℕ) (pattern text : List ℕ) → IsPlain byte
    → (IsSpelled (byte ∷ pattern) (byte ∷ text) ↔ IsSpelled pattern text)
plain_same byte pattern text plain = (
  (λ is.
      let rest = behind byte pattern (byte ∷ text) plain is in
      subst (IsSpelled pattern) (sym (ap rest_of rest.1)) rest.2),
  (λ is. subst (λ (pieces : List Piece). Matches pieces (byte ∷ text)) (sym (spelled_plain byte pattern plain))
      (next_piece (begins refl) is)),
)

pub plain_other : (byte first : ℕ) (pattern text : List ℕ) → IsPlain byte → first ≢ byte
    → ¬ (IsSpelled (byte ∷ pattern) (first ∷ text))
plain_other byte first pattern text plain other is =
    other (ap first_of (behind byte pattern (first ∷ text) plain is).1)

plain_left : (byte : ℕ) (pattern : List ℕ) → IsPlain byte → ¬ (IsSpelled (byte ∷ pattern) [])
plain_left byte pattern plain is =
    let rest = behind byte pattern [] plain is in
    absurd (omega (arith, ap (λ (l : List ℕ). length l) rest.1))

-- ---- lists that are taken apart from the front

-- what was passed says nothing more, by one byte
pub passed : (P : Type 0) (rest left : List ℕ) (d e : ℕ) → 1 ≤ length rest → 1 ≤ length left → IsPlain (get_or rest 0 d)
    → get_or left 0 e ≡ get_or rest 0 d → (P ↔ IsSpelled rest left)
    → (P ↔ IsSpelled (take (length rest - 1) (drop 1 rest)) (take (length left - 1) (drop 1 left)))
passed P [] left d e some more plain same is = absurd (omega (arith, some))
passed P (byte ∷ rest) [] d e some more plain same is = absurd (omega (arith, more))
passed P (byte ∷ rest) (first ∷ left) d e some more plain same is =
    let one = plain_same byte rest left plain in
    let now = subst (λ (b : ℕ). P ↔ IsSpelled (byte ∷ rest) (b ∷ left)) same is in
    subst (λ (l : List ℕ). P ↔ IsSpelled l (take (length (first ∷ left) - 1) left))
    (sym (take_all (length (byte ∷ rest) - 1) rest (omega arith)))
    (subst (λ (l : List ℕ). P ↔ IsSpelled rest l) (sym (take_all (length (first ∷ left) - 1) left (omega arith)))
    ((λ p. one.0 (now.0 p)), (λ is. now.1 (one.1 is))))

-- nothing is left of the text
pub ended : (P : Type 0) (rest left : List ℕ) (d : ℕ) → 1 ≤ length rest → length left < 1 → IsPlain (get_or rest 0 d)
    → (P ↔ IsSpelled rest left) → ¬ P
ended P [] left d some none plain is = absurd (omega (arith, some))
ended P (byte ∷ rest) [] d some none plain is = λ p. plain_left byte rest plain (is.0 p)
ended P (byte ∷ rest) (first ∷ left) d some none plain is = absurd (omega (arith, none))
