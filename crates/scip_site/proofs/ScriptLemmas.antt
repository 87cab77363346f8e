-- Texts between quotes.
use Rattle.std.proofs.Common.{◌≡◌, ◌≢◌, ◌∙◌, sym, refl, ap, ℕ, ◌+◌, ◌*◌, ◌/◌, ◌%◌, ◌<◌, ◌≤◌, ◌==◌, Bool, true}
use Rattle.std.proofs.Common.{false, cond, List, [], ◌∷◌, ◌++◌, arith}
use Rattle.std.specs.Prelude.{nat_lt}
use Rattle.std.specs.List.{flat_map, AllByRecursion}
use Rattle.std.proofs.lemmas.Bool.{eqb-true, eqb-false, ltb-true, ltb-false, lt-ltb, le-ltb}
use Rattle.scip_site.specs.Script.{digit, is_coded, quoted_byte, value_of, read_behind}
use Rattle.scip_site.specs.FolderLaws.{QuotesShowTheText, QuotesEndNothing}

-- ---- they are read back

value_of_digit : (n : ℕ) → n < 16 → value_of (digit n) ≡ n
value_of_digit n small = by (nat_lt n 10) refl
  where
    by : (b : Bool) → nat_lt n 10 ≡ b → value_of (cond b (n + 48) (n + 87)) ≡ n
    by true e = let low : n < 10 = ltb-true n 10 e in rw (lt-ltb (n + 48) 97 (omega (arith, low))) (omega arith)
    by false e = let high : 10 ≤ n = ltb-false n 10 e in rw (le-ltb (n + 87) 97 (omega (arith, high))) (omega arith)

two_digits : (b : ℕ) → b < 256 → 16 * value_of (digit (b / 16)) + value_of (digit (b % 16)) ≡ b
two_digits b small =
    let high : b / 16 < 16 = omega (arith, small) in
    let low : b % 16 < 16 = omega arith in
    rw (value_of_digit (b / 16) high, value_of_digit (b % 16) low) (omega arith)

-- a byte that is as it is isn't one of those that aren't
uncoded : (b other : ℕ) → is_coded b ≡ false → is_coded other ≡ true → (b == other) ≡ false
uncoded b other plain coded = by (b == other) refl
  where
    by : (c : Bool) → (b == other) ≡ c → c ≡ false
    by true e = let clash : false ≡ true = sym plain ∙ ap is_coded (eqb-true b other e) ∙ coded in absurd cc
    by false e = refl

reads_byte : (b : ℕ) (rest : List ℕ) → b < 256 → read_behind 0 (quoted_byte b ++ rest) ≡ b ∷ read_behind 0 rest
reads_byte b rest small = by (is_coded b) refl
  where
    by : (k : Bool) → is_coded b ≡ k
        → read_behind 0 (cond k (92 ∷ (117 ∷ (48 ∷ (48 ∷ (digit (b / 16) ∷ (digit (b % 16) ∷ [])))))) (b ∷ []) ++ rest)
        ≡ b ∷ read_behind 0 rest
    by true coded = ap (λ (n : ℕ). n ∷ read_behind 0 rest) (two_digits b small)
    by false plain = rw (uncoded b 92 plain refl) refl

pub show_the_text : QuotesShowTheText
show_the_text [] small = refl
show_the_text (b ∷ text) small =
    reads_byte b (flat_map quoted_byte text) small.0 ∙ ap (λ (l : List ℕ). b ∷ l) (show_the_text text small.1)

-- ---- they end nothing

abbrev EndsNothing : ℕ → Type 0
EndsNothing b = (b ≢ 34) × (b ≢ 60) × (b ≢ 10) × (b ≢ 13)

far : (b : ℕ) → (b == 34) ≡ false → (b == 60) ≡ false → (b == 10) ≡ false → (b == 13) ≡ false → EndsNothing b
far b c d e f = (eqb-false b 34 c, eqb-false b 60 d, eqb-false b 10 e, eqb-false b 13 f)

digit_far : (n : ℕ) → EndsNothing (digit n)
digit_far n = by (nat_lt n 10) refl
  where
    by : (b : Bool) → nat_lt n 10 ≡ b → EndsNothing (cond b (n + 48) (n + 87))
    by true e =
        let low : n < 10 = ltb-true n 10 e in (
          λ s. absurd (omega (arith, s)),
          λ s. absurd (omega (arith, low, s)),
          λ s. absurd (omega (arith, s)),
          λ s. absurd (omega (arith, s)),
        )
    by false e = (
      λ s. absurd (omega (arith, s)),
      λ s. absurd (omega (arith, s)),
      λ s. absurd (omega (arith, s)),
      λ s. absurd (omega (arith, s)),
    )

byte_ends_nothing : (b : ℕ) (rest : List ℕ) → AllByRecursion EndsNothing rest
    → AllByRecursion EndsNothing (quoted_byte b ++ rest)
byte_ends_nothing b rest others = by (is_coded b) refl
  where
    by : (k : Bool) → is_coded b ≡ k
        → AllByRecursion EndsNothing
        (cond k (92 ∷ (117 ∷ (48 ∷ (48 ∷ (digit (b / 16) ∷ (digit (b % 16) ∷ [])))))) (b ∷ []) ++ rest)
    by true coded = (
      far 92 refl refl refl refl,
      (
        far 117 refl refl refl refl,
        (
          far 48 refl refl refl refl,
          (far 48 refl refl refl refl, (digit_far (b / 16), (digit_far (b % 16), others))),
        ),
      ),
    )
    by false plain = (
      far b (uncoded b 34 plain refl) (uncoded b 60 plain refl) (uncoded b 10 plain refl) (uncoded b 13 plain refl),
      others,
    )

pub end_nothing : QuotesEndNothing
end_nothing [] = tt
end_nothing (b ∷ text) = byte_ends_nothing b (flat_map quoted_byte text) (end_nothing text)
