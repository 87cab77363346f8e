-- One byte more: the line and the column behind it.
use Rattle.std.proofs.Common.{◌≡◌, ap, refl, sym, ℕ, ◌+◌, ◌-◌, ◌≤◌, ◌<◌, Bool, true, false, cond, not}
use Rattle.std.proofs.Common.{List, [], ◌∷◌, length, take, drop, ◌++◌, arith, get_or, length-append}
use Rattle.std.specs.List.{after_last, count_by, onto_first, suffix_len}
use Rattle.std.proofs.Math.Numerals.{one-add}
use Rattle.std.proofs.lemmas.List.{reverse-append, drop-append-le, take_more}
use Rattle.std.proofs.lemmas.List.Sums.{count_by_more_no, suffix_len-le-length, sum_by-cons}
use Rattle.std.proofs.lemmas.List.Sums.{sum_by_push}
use Rattle.proto_lex.specs.Position.{is_line_end, line_before}
use Rattle.diagnostics.specs.Characters.{characters, goes_on}
use Rattle.diagnostics.specs.Counting.{IsCounted}
use Rattle.diagnostics.proofs.CharacterLemmas.{first_is}

-- ---- characters

-- a byte that begins a character
abbrev begins : ℕ → Bool
begins byte = not (goes_on byte)

abbrev weight : ℕ → ℕ
weight byte = cond (begins byte) 1 0

kept_len : (x : ℕ) (ps : List (List ℕ)) → 1 ≤ length ps → length (onto_first x ps) ≡ length ps
kept_len x [] some = absurd (omega (arith, some))
kept_len x (p ∷ ps) some = refl

some_characters : (b : ℕ) (bs : List ℕ) → 1 ≤ length (characters (b ∷ bs))
some_characters b bs = omega (arith, ap length (first_is b bs))

count_by_next : (x y : ℕ) (ys : List ℕ) (t : Bool) → goes_on y ≡ t
    → length (characters (y ∷ ys)) ≡ 1 + count_by begins ys
    → length (characters (x ∷ y ∷ ys)) ≡ 1 + count_by begins (y ∷ ys)
count_by_next x y ys true e h =
    let one : count_by begins (y ∷ ys) ≡ weight y + count_by begins ys = sum_by-cons weight y ys in
    let is : weight y ≡ 0 = rw e refl in
    let same : length (characters (x ∷ y ∷ ys)) ≡ length (characters (y ∷ ys)) =
    rw e (kept_len x (characters (y ∷ ys)) (some_characters y ys)) in
    omega (arith, one, is, same, h)
count_by_next x y ys false e h =
    let one : count_by begins (y ∷ ys) ≡ weight y + count_by begins ys = sum_by-cons weight y ys in
    let is : weight y ≡ 1 = rw e refl in
    let more : length (characters (x ∷ y ∷ ys)) ≡ 1 + length (characters (y ∷ ys)) =
    rw e (sym (one-add (length (characters (y ∷ ys))))) in
    omega (arith, one, is, more, h)

-- the first byte, and those behind it that begin one
count_is : (x : ℕ) (xs : List ℕ) → length (characters (x ∷ xs)) ≡ 1 + count_by begins xs
count_is x [] = refl
count_is x (y ∷ ys) = count_by_next x y ys (goes_on y) refl (count_is y ys)

count_more : (xs : List ℕ) (b : ℕ) → count_by begins (xs ++ b ∷ []) ≡ count_by begins xs + weight b
count_more xs b = sum_by_push weight xs b

-- one that goes on is none more
push_same : (xs : List ℕ) (b : ℕ) → goes_on b ≡ true → 0 < length (characters xs)
    → length (characters (xs ++ b ∷ [])) ≡ length (characters xs)
push_same [] b on some = absurd (omega (arith, some))
push_same (x ∷ xs) b on some =
    let none : weight b ≡ 0 = rw on refl in
    omega (arith, count_is x (xs ++ b ∷ []), count_more xs b, none, count_is x xs)

-- one that begins a character, or is the first, is one more
push_more : (xs : List ℕ) (b : ℕ) → (0 < length (characters xs) → goes_on b ≡ false)
    → length (characters (xs ++ b ∷ [])) ≡ length (characters xs) + 1
push_more [] b off = refl
push_more (x ∷ xs) b off =
    let one : weight b ≡ 1 = rw (off (omega (arith, count_is x xs))) refl in
    omega (arith, count_is x (xs ++ b ∷ []), count_more xs b, one, count_is x xs)

-- ---- lines

pushed_kept : (xs : List ℕ) (s y : ℕ) → s ≤ length xs
    → drop (length (xs ++ y ∷ []) - (1 + s)) (xs ++ y ∷ []) ≡ drop (length xs - s) xs ++ y ∷ []
pushed_kept xs s y fits =
    let k : length (xs ++ y ∷ []) - (1 + s) ≡ length xs - s = omega (arith, length-append xs (y ∷ [])) in
    rw k (drop-append-le (length xs - s) xs (y ∷ []) (omega arith))

-- and goes on with any other byte
line_goes_on : (xs : List ℕ) (y : ℕ) → is_line_end y ≡ false
    → after_last is_line_end (xs ++ y ∷ []) ≡ after_last is_line_end xs ++ y ∷ []
line_goes_on xs y e =
    rw (reverse-append xs (y ∷ []), e)
    (pushed_kept xs (suffix_len (λ x. not (is_line_end x)) xs) y
    (suffix_len-le-length (λ x. not (is_line_end x)) xs))

-- ---- places

pub counted_same : (text : List ℕ) (at line col : ℕ) → IsCounted text at line col → at < length text
    → is_line_end (get_or text at 0) ≡ false → 1 < col → goes_on (get_or text at 0) ≡ true
    → IsCounted text (at + 1) line col
counted_same text at line col so more e some on =
    let here = line_before text at in
    let same = push_same here (get_or text at 0) on (omega (arith, some, so.column_is)) in
    record {
      within = omega (arith, more);
      line_is = omega (arith, so.line_is, count_by_more_no is_line_end text at 0 more e);
      column_is = rw (take_more text at 0 more, line_goes_on (take at text) (get_or text at 0) e)
          (omega (arith, same, so.column_is));
      few_lines = omega (arith, so.few_lines);
      few_columns = omega (arith, so.few_columns);
    }

pub counted_more : (text : List ℕ) (at line col : ℕ) → IsCounted text at line col → at < length text
    → is_line_end (get_or text at 0) ≡ false → (1 < col → goes_on (get_or text at 0) ≡ false)
    → IsCounted text (at + 1) line (col + 1)
counted_more text at line col so more e off =
    let here = line_before text at in
    let one = push_more here (get_or text at 0) (λ some. off (omega (arith, some, so.column_is))) in
    record {
      within = omega (arith, more);
      line_is = omega (arith, so.line_is, count_by_more_no is_line_end text at 0 more e);
      column_is = rw (take_more text at 0 more, line_goes_on (take at text) (get_or text at 0) e)
          (omega (arith, one, so.column_is));
      few_lines = omega (arith, so.few_lines);
      few_columns = omega (arith, so.few_columns);
    }
