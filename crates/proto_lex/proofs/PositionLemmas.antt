-- A position one byte on, and how large positions are.
use Rattle.std.proofs.Common.{◌≡◌, refl, ℕ, ◌+◌, ◌-◌, ◌≤◌, ◌*◌, List, [], ◌∷◌, ◌++◌, length, get_or, take, drop, Bool}
use Rattle.std.proofs.Common.{true, false, not, cond, arith, length-append, length-drop}
use Rattle.std.proofs.lemmas.List.{reverse-append, drop-append-le, length-take}
use Rattle.std.proofs.lemmas.List.Sums.{sum_by_push, suffix_len-le-length, sum_by-le}
use Rattle.std.specs.List.{after_last, count_by, sum_by, suffix_len, All}
use Rattle.std.proofs.Math.ListN.{drop_of_length-le}
use Rattle.std.proofs.lemmas.Bool.Decides.{nat_tests}
use Rattle.proto_lex.specs.Position.{is_line_end, code_units, position_after}
use Rattle.proto_lex.specs.declared.position.Encoding.{Encoding}
use Rattle.proto_lex.specs.declared.position.Encoding.TheVariants.{Utf8, Utf16}

pushed_kept : {X : Type 0} (xs : List X) (s : ℕ) (y : X) → s ≤ length xs
    → drop (length (xs ++ y ∷ []) - (1 + s)) (xs ++ y ∷ []) ≡ drop (length xs - s) xs ++ y ∷ []
pushed_kept xs s y fits =
    let k : length (xs ++ y ∷ []) - (1 + s) ≡ length xs - s = omega (arith, length-append xs (y ∷ [])) in
    rw k (drop-append-le (length xs - s) xs (y ∷ []) (omega arith))

pushed_by : {X : Type 0} (p : X → Bool) (xs : List X) (y : X) (b : Bool) → p y ≡ b
    → after_last p (xs ++ y ∷ []) ≡ cond b [] (after_last p xs ++ y ∷ [])
pushed_by p xs y true e = rw (reverse-append xs (y ∷ []), e) (drop_of_length-le (xs ++ y ∷ []) (omega arith))
pushed_by p xs y false e =
    rw (reverse-append xs (y ∷ []), e)
    (pushed_kept xs (suffix_len (λ x. not (p x)) xs) y (suffix_len-le-length (λ x. not (p x)) xs))

pub after_last_push : {X : Type 0} (p : X → Bool) (xs : List X) (y : X)
    → after_last p (xs ++ y ∷ []) ≡ cond (p y) [] (after_last p xs ++ y ∷ [])
after_last_push p xs y = pushed_by p xs y (p y) refl

-- the position after one more byte
pub after_line_end : (encoding : Encoding) (text : List ℕ) (byte : ℕ) → is_line_end byte ≡ true
    → position_after encoding (text ++ byte ∷ [])
    ≡ record { line = (position_after encoding text).line + 1; column = 0 }
after_line_end encoding text byte e = rw (sum_by_push, after_last_push is_line_end text byte, e) refl

pub after_other : (encoding : Encoding) (text : List ℕ) (byte : ℕ) → is_line_end byte ≡ false
    → position_after encoding (text ++ byte ∷ [])
    ≡ record {
      line = (position_after encoding text).line;
      column = (position_after encoding text).column + code_units encoding byte;
    }
after_other encoding text byte e = rw (sum_by_push, after_last_push is_line_end text byte, e) (
    let lines : count_by is_line_end text + 0 ≡ count_by is_line_end text = omega arith in
    rw (lines, sum_by_push (code_units encoding) (after_last is_line_end text) byte) refl)

few_units : (encoding : Encoding) (byte : ℕ) → code_units encoding byte ≤ 2
few_units Utf8 byte = omega arith
few_units Utf16 byte = grind (arith, nat_tests)

one_each : (text : List ℕ) → All (λ byte. code_units Utf8 byte ≤ 1) text
one_each text k d inside = omega arith

all_few : (encoding : Encoding) (text : List ℕ) → All (λ byte. code_units encoding byte ≤ 2) text
all_few encoding text k d inside = few_units encoding (get_or text k d)

pub length-after_last-le : {X : Type 0} (p : X → Bool) (xs : List X) → length (after_last p xs) ≤ length xs
length-after_last-le p xs = omega (arith, length-drop (length xs - suffix_len (λ x. not (p x)) xs) xs)

pub column-le : (encoding : Encoding) (text : List ℕ) → (position_after encoding text).column ≤ 2 * length text
column-le encoding text =
    omega (
      arith,
      sum_by-le (code_units encoding) 2 (after_last is_line_end text)
          (all_few encoding (after_last is_line_end text)),
      length-after_last-le is_line_end text,
    )

pub byte_column-le : (text : List ℕ) → (position_after Utf8 text).column ≤ length text
byte_column-le text =
    omega (
      arith,
      sum_by-le (code_units Utf8) 1 (after_last is_line_end text) (one_each (after_last is_line_end text)),
      length-after_last-le is_line_end text,
    )

-- so are the units of the first bytes
pub units_so_far : (encoding : Encoding) (bytes : List ℕ) (i : ℕ) → sum_by (code_units encoding) (take i bytes) ≤ 2 * i
units_so_far encoding bytes i =
    omega (
      arith,
      sum_by-le (code_units encoding) 2 (take i bytes) (all_few encoding (take i bytes)),
      length-take i bytes,
    )
