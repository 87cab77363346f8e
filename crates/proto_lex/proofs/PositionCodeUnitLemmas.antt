-- The code units of a text in UTF-16, counted by its bytes in UTF-8.
use Rattle.std.proofs.Common.{◌≡◌, ◌∙◌, sym, refl, subst, ℕ, ◌+◌, ◌/◌, ◌<◌, ◌≤◌, List, [], ◌∷◌, length, ◌⊎◌, inl, inr}
use Rattle.std.proofs.Common.{arith, length-append}
use Rattle.std.specs.Prelude.{IsUtf8}
use Rattle.std.specs.List.{sum_by, flat_map}
use Rattle.std.specs.Str.{chars}
use Rattle.std.specs.Char.Escape.{encode_utf16}
use Rattle.std.proofs.Math.Utf8.{encode, encodes}
use lib.Utf8.{next}
use Rattle.std.proofs.lemmas.List.Sums.{sum_by-append}
use Rattle.std.proofs.lemmas.Str.{chars-encodes, length-encode, len_utf8_bounds}
use Rattle.std.proofs.lemmas.Bool.{lt-ltb, le-ltb, cases_lt}
use Rattle.std.proofs.lemmas.Bool.Decides.{nat_tests}
use Rattle.proto_lex.specs.Position.{code_units}
use Rattle.proto_lex.specs.declared.position.Encoding.TheVariants.{Utf16}

abbrev units : ℕ → ℕ
units byte = code_units Utf16 byte

of_ascii : (byte : ℕ) → byte < 128 → units byte ≡ 1
of_ascii byte small = grind (arith, nat_tests)

of_next : (bits : ℕ) → units (next bits) ≡ 0
of_next bits = grind (arith, nat_tests)

of_lead : (byte : ℕ) → 192 ≤ byte → byte < 240 → units byte ≡ 1
of_lead byte least most = grind (arith, nat_tests)

of_wide : (byte : ℕ) → 240 ≤ byte → units byte ≡ 2
of_wide byte least = grind (arith, nat_tests)

abbrev SameUnits : ℕ → Type 0
SameUnits c = sum_by units (encode c) ≡ length (encode_utf16 c)

-- the units of a character, case by case of how many bytes it takes
one_byte : (c : ℕ) → c < 128 → SameUnits c
unfolding encode
one_byte c small = rw (lt-ltb c 128 small, lt-ltb c 65536 (omega arith), of_ascii c small) refl

two_bytes : (c : ℕ) → 128 ≤ c → c < 2048 → SameUnits c
unfolding encode
two_bytes c least small =
    rw (
      le-ltb c 128 least,
      lt-ltb c 2048 small,
      lt-ltb c 65536 (omega arith),
      of_lead (192 + c / 64) (omega arith) (omega arith),
      of_next c,
    ) refl

three_bytes : (c : ℕ) → 2048 ≤ c → c < 65536 → SameUnits c
unfolding encode
three_bytes c least small =
    rw (
      le-ltb c 128 (omega arith),
      le-ltb c 2048 least,
      lt-ltb c 65536 small,
      of_lead (224 + c / 4096) (omega arith) (omega arith),
      of_next (c / 64),
      of_next c,
    ) refl

four_bytes : (c : ℕ) → 65536 ≤ c → SameUnits c
unfolding encode
four_bytes c least =
    rw (
      le-ltb c 128 (omega arith),
      le-ltb c 2048 (omega arith),
      le-ltb c 65536 least,
      of_wide (240 + c / 262144) (omega arith),
      of_next (c / 4096),
      of_next (c / 64),
      of_next c,
    ) refl

units_of : (c : ℕ) → SameUnits c
units_of c = by_bytes c (cases_lt c 128) (cases_lt c 2048) (cases_lt c 65536)
  where
    by_bytes : (c : ℕ) → (c < 128) ⊎ (128 ≤ c) → (c < 2048) ⊎ (2048 ≤ c) → (c < 65536) ⊎ (65536 ≤ c) → SameUnits c
    by_bytes c (inl a) two three = one_byte c a
    by_bytes c (inr a) (inl b) three = two_bytes c a b
    by_bytes c (inr a) (inr b) (inl d) = three_bytes c b d
    by_bytes c (inr a) (inr b) (inr d) = four_bytes c d

units_of_all : (cs : List ℕ) → sum_by units (encodes cs) ≡ length (flat_map encode_utf16 cs)
units_of_all [] = refl
units_of_all (c ∷ cs) = sum_by-append units (encode c) (encodes cs)
    ∙ rw (units_of c, units_of_all cs) (sym (length-append (encode_utf16 c) (flat_map encode_utf16 cs)))

pub units_of_text : (text : List ℕ) → IsUtf8 text
    → sum_by (code_units Utf16) text ≡ length (flat_map encode_utf16 (chars text))
units_of_text text utf8 =
    subst (λ (bytes : List ℕ). sum_by (code_units Utf16) bytes ≡ length (flat_map encode_utf16 (chars bytes))) utf8.1.1
    (rw (chars-encodes utf8.0 utf8.1.0) (units_of_all utf8.0))

-- a character takes no more units in UTF-16 than bytes in UTF-8
few_by : (c : ℕ) → (c < 65536) ⊎ (65536 ≤ c) → length (encode_utf16 c) ≤ length (encode c)
few_by c (inl small) = rw (lt-ltb c 65536 small) (omega (arith, length-encode c, len_utf8_bounds c))
few_by c (inr large) = rw (
  le-ltb c 65536 large,
  length-encode c,
  le-ltb c 128 (omega arith),
  le-ltb c 2048 (omega arith),
  le-ltb c 65536 large,
) (omega arith)

few_of_all : (cs : List ℕ) → sum_by units (encodes cs) ≤ length (encodes cs)
few_of_all [] = omega arith
few_of_all (c ∷ cs) = omega (
  arith,
  sum_by-append units (encode c) (encodes cs),
  length-append (encode c) (encodes cs),
  units_of c,
  few_by c (cases_lt c 65536),
  few_of_all cs,
)

pub few_of_text : (text : List ℕ) → IsUtf8 text → sum_by (code_units Utf16) text ≤ length text
few_of_text text utf8 = subst (λ (bytes : List ℕ). sum_by (code_units Utf16) bytes ≤ length bytes) utf8.1.1
    (few_of_all utf8.0)
