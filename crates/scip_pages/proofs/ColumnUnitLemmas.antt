-- The units of a text, counted by its bytes in UTF-8, and in the form that they are units of.
use Rattle.std.proofs.Common.{◌≡◌, ◌∙◌, sym, refl, subst, ℕ, ◌+◌, ◌/◌, ◌<◌, ◌≤◌, List, [], ◌∷◌, length, ◌⊎◌, inl, inr}
use Rattle.std.proofs.Common.{arith, length-append}
use Rattle.std.specs.List.{sum_by, flat_map}
use Rattle.std.specs.Str.{chars}
use Rattle.std.specs.Char.Escape.{encode_utf16}
use Rattle.std.proofs.Math.Utf8.{encode, encodes}
use lib.Utf8.{next}
use Rattle.std.proofs.lemmas.List.Sums.{sum_by-append, sum_by-cons}
use Rattle.std.proofs.lemmas.Str.{chars-encodes}
use Rattle.std.proofs.lemmas.Bool.{lt-ltb, le-ltb, cases_lt}
use Rattle.std.proofs.lemmas.Bool.Decides.{nat_tests}
use Rattle.scip_pages.specs.declared.columns.ColumnUnit.TheVariants.{Utf8, Utf16, Utf32}
use Rattle.scip_pages.specs.Columns.{units_of}
use Rattle.scip_pages.specs.ColumnLaws.{CountsUtf8, CountsUtf16, CountsUtf32}

pub counts_utf8 : CountsUtf8
counts_utf8 [] = refl
counts_utf8 (byte ∷ text) = sum_by-cons (units_of Utf8) byte text ∙ rw (counts_utf8 text) (omega arith)

-- a first byte of a character of one byte, of two or three, of four, and another byte
of_ascii : (byte : ℕ) → byte < 128 → (units_of Utf16 byte ≡ 1) × (units_of Utf32 byte ≡ 1)
of_ascii byte small = (grind (arith, nat_tests), grind (arith, nat_tests))

of_next : (bits : ℕ) → (units_of Utf16 (next bits) ≡ 0) × (units_of Utf32 (next bits) ≡ 0)
of_next bits = (grind (arith, nat_tests), grind (arith, nat_tests))

of_lead : (byte : ℕ) → 192 ≤ byte → byte < 240 → (units_of Utf16 byte ≡ 1) × (units_of Utf32 byte ≡ 1)
of_lead byte least most = (grind (arith, nat_tests), grind (arith, nat_tests))

of_wide : (byte : ℕ) → 240 ≤ byte → (units_of Utf16 byte ≡ 2) × (units_of Utf32 byte ≡ 1)
of_wide byte least = (grind (arith, nat_tests), grind (arith, nat_tests))

-- what the bytes of a character count for
abbrev CountsOne : ℕ → Type 0
CountsOne c = (sum_by (units_of Utf16) (encode c) ≡ length (encode_utf16 c)) × (sum_by (units_of Utf32) (encode c) ≡ 1)

one_byte : (c : ℕ) → c < 128 → CountsOne c
unfolding encode
one_byte c small = let a = of_ascii c small in
    rw (lt-ltb c 128 small, lt-ltb c 65536 (omega arith), a.0, a.1) (refl, refl)

two_bytes : (c : ℕ) → 128 ≤ c → c < 2048 → CountsOne c
unfolding encode
two_bytes c least small =
    let a = of_lead (192 + c / 64) (omega arith) (omega arith) in let b = of_next c in
    rw (le-ltb c 128 least, lt-ltb c 2048 small, lt-ltb c 65536 (omega arith), a.0, a.1, b.0, b.1) (refl, refl)

three_bytes : (c : ℕ) → 2048 ≤ c → c < 65536 → CountsOne c
unfolding encode
three_bytes c least small =
    let a = of_lead (224 + c / 4096) (omega arith) (omega arith) in let b = of_next (c / 64) in let d = of_next c in
    rw (le-ltb c 128 (omega arith), le-ltb c 2048 least, lt-ltb c 65536 small, a.0, a.1, b.0, b.1, d.0, d.1)
    (refl, refl)

four_bytes : (c : ℕ) → 65536 ≤ c → CountsOne c
unfolding encode
four_bytes c least =
    let a = of_wide (240 + c / 262144) (omega arith) in let b = of_next (c / 4096) in let d = of_next (c / 64) in
    let e = of_next c in
    rw (
      le-ltb c 128 (omega arith),
      le-ltb c 2048 (omega arith),
      le-ltb c 65536 least,
      a.0,
      a.1,
      b.0,
      b.1,
      d.0,
      d.1,
      e.0,
      e.1,
    ) (refl, refl)

counts_one : (c : ℕ) → CountsOne c
counts_one c = by_bytes c (cases_lt c 128) (cases_lt c 2048) (cases_lt c 65536)
  where
    by_bytes : (c : ℕ) → (c < 128) ⊎ (128 ≤ c) → (c < 2048) ⊎ (2048 ≤ c) → (c < 65536) ⊎ (65536 ≤ c) → CountsOne c
    by_bytes c (inl a) two three = one_byte c a
    by_bytes c (inr a) (inl b) three = two_bytes c a b
    by_bytes c (inr a) (inr b) (inl d) = three_bytes c b d
    by_bytes c (inr a) (inr b) (inr d) = four_bytes c d

all_utf16 : (cs : List ℕ) → sum_by (units_of Utf16) (encodes cs) ≡ length (flat_map encode_utf16 cs)
all_utf16 [] = refl
all_utf16 (c ∷ cs) = sum_by-append (units_of Utf16) (encode c) (encodes cs)
    ∙ rw ((counts_one c).0, all_utf16 cs) (sym (length-append (encode_utf16 c) (flat_map encode_utf16 cs)))

all_utf32 : (cs : List ℕ) → sum_by (units_of Utf32) (encodes cs) ≡ length cs
all_utf32 [] = refl
all_utf32 (c ∷ cs) = sum_by-append (units_of Utf32) (encode c) (encodes cs)
    ∙ rw ((counts_one c).1, all_utf32 cs) (omega arith)

pub counts_utf16 : CountsUtf16
counts_utf16 text utf8 =
    subst (λ (bytes : List ℕ). sum_by (units_of Utf16) bytes ≡ length (flat_map encode_utf16 (chars bytes))) utf8.1.1
    (rw (chars-encodes utf8.0 utf8.1.0) (all_utf16 utf8.0))

pub counts_utf32 : CountsUtf32
counts_utf32 text utf8 = subst (λ (bytes : List ℕ). sum_by (units_of Utf32) bytes ≡ length (chars bytes)) utf8.1.1
    (rw (chars-encodes utf8.0 utf8.1.0) (all_utf32 utf8.0))
