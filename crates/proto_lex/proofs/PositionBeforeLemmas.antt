-- Positions keep the order of offsets.
use Rattle.std.proofs.Common.{◌≡◌, refl, subst, ℕ, zero, suc, ◌+◌, ◌-◌, ◌<◌, ◌≤◌, List, [], ◌∷◌, ◌++◌, length, get_or}
use Rattle.std.proofs.Common.{take, Bool, true, false, arith}
use Rattle.std.proofs.lemmas.List.{take_more}
use Rattle.std.proofs.lemmas.Bool.Decides.{nat_tests}
use Rattle.proto_lex.specs.Position.{is_line_end, code_units, position_after, position_of, IsBefore}
use Rattle.proto_lex.specs.declared.position.Encoding.{Encoding}
use Rattle.proto_lex.specs.declared.position.Encoding.TheVariants.{Utf8, Utf16}
use Rattle.proto_lex.specs.declared.position.Position.{Position}
use Rattle.proto_lex.proofs.PositionLemmas.{after_line_end, after_other}

-- no later line, and where it is the same, no greater column
record IsNotAfter (p q : Position) : Type 0 where
  line : p.line ≤ q.line
  column : p.line ≡ q.line → p.column ≤ q.column

one_more_byte : (encoding : Encoding) (text : List ℕ) (byte : ℕ) (ends : Bool) → is_line_end byte ≡ ends
    → IsNotAfter (position_after encoding text) (position_after encoding (text ++ byte ∷ []))
one_more_byte encoding text byte true e =
    rw (after_line_end encoding text byte e) (record { line = omega arith; column = λ same. absurd (omega arith) })
one_more_byte encoding text byte false e =
    rw (after_other encoding text byte e) (record { line = omega arith; column = λ same. omega arith })

one_more_unit : (encoding : Encoding) (text : List ℕ) (byte : ℕ) (ends : Bool) → is_line_end byte ≡ ends
    → 1 ≤ code_units encoding byte
    → IsBefore (position_after encoding text) (position_after encoding (text ++ byte ∷ []))
one_more_unit encoding text byte true e some =
    rw (after_line_end encoding text byte e) (record { line = omega arith; column = λ same. absurd (omega arith) })
one_more_unit encoding text byte false e some =
    rw (after_other encoding text byte e) (record { line = omega arith; column = λ same. omega arith })

first : (encoding : Encoding) (text : List ℕ) (a : ℕ) → a < length text → 1 ≤ code_units encoding (get_or text a 0)
    → IsBefore (position_of encoding text a) (position_of encoding text (a + 1))
first encoding text a inside some =
    rw (take_more text a 0 inside)
    (one_more_unit encoding (take a text) (get_or text a 0) (is_line_end (get_or text a 0)) refl some)

next : (encoding : Encoding) (text : List ℕ) (a : ℕ) → a < length text
    → IsNotAfter (position_of encoding text a) (position_of encoding text (a + 1))
next encoding text a inside =
    rw (take_more text a 0 inside)
    (one_more_byte encoding (take a text) (get_or text a 0) (is_line_end (get_or text a 0)) refl)

before_trans : (p q r : Position) → IsBefore p q → IsNotAfter q r → IsBefore p r
before_trans p q r first then = record { line = omega arith; column = λ same. omega arith }

at : (encoding : Encoding) (text : List ℕ) (a b c : ℕ) → b ≡ c
    → IsBefore (position_of encoding text a) (position_of encoding text b)
    → IsBefore (position_of encoding text a) (position_of encoding text c)
at encoding text a b c same before =
    subst (λ (n : ℕ). IsBefore (position_of encoding text a) (position_of encoding text n)) same before

rise_by : (encoding : Encoding) (text : List ℕ) (a more : ℕ) → a + 1 + more ≤ length text
    → 1 ≤ code_units encoding (get_or text a 0)
    → IsBefore (position_of encoding text a) (position_of encoding text (a + 1 + more))
rise_by encoding text a zero inside some =
    at encoding text a (a + 1) (a + 1 + 0) (omega arith) (first encoding text a (omega arith) some)
rise_by encoding text a (suc more) inside some =
    let further : IsNotAfter (position_of encoding text (a + 1 + more)) (position_of encoding text (a + 1 + more + 1)) =
    next encoding text (a + 1 + more) (omega arith) in
    let so_far : IsBefore (position_of encoding text a) (position_of encoding text (a + 1 + more)) =
    rise_by encoding text a more (omega arith) some in
    at encoding text a (a + 1 + more + 1) (a + 1 + suc more) (omega arith) (before_trans _ _ _ so_far further)

pub rise : (encoding : Encoding) (text : List ℕ) (a b : ℕ) → a < b → b ≤ length text
    → 1 ≤ code_units encoding (get_or text a 0) → IsBefore (position_of encoding text a) (position_of encoding text b)
rise encoding text a b less inside some =
    at encoding text a (a + 1 + (b - a - 1)) b (omega arith) (rise_by encoding text a (b - a - 1) (omega arith) some)

-- a character's first byte counts for at least one unit
pub lead_counts : (encoding : Encoding) (byte : ℕ) → (128 ≤ byte → 192 ≤ byte) → 1 ≤ code_units encoding byte
lead_counts Utf8 byte lead = omega arith
lead_counts Utf16 byte lead = grind (arith, nat_tests)
