use Rattle.std.proofs.Common.{◌≡◌, ℕ, ◌+◌, true, false, nat_eq, Some, List, [], ◌∷◌, ◌++◌, length, refl, sym, ◌∙◌, ap}
use Rattle.std.proofs.Common.{arith, eqb-true, ◌-◌, ◌≤◌}
use Rattle.std.proofs.lemmas.Option.{same_Some}
use Rattle.proto_lex.specs.Comments.{begins_close, EndsBlock, close, inside}
use Rattle.proto_lex.specs.Reading.{block_at}
use Rattle.proto_lex.proofs.ReadingTestLemmas.{chosen, both}

-- Block comments are read exactly as they are defined.

-- a front of bytes that ends a block comment, of so many bytes
pub record BlockFront (bytes : List ℕ) (count : ℕ) : Type 0 where
  pub front : List ℕ
  pub rest : List ℕ
  pub parts : bytes ≡ front ++ rest
  pub ends : EndsBlock front
  pub counted : count ≡ length front

close_found : (b : ℕ) (others : List ℕ) → begins_close (b ∷ others) ≡ true → BlockFront (b ∷ others) 2
close_found b [] e = both (nat_eq b 42) false e (λ t s. absurd cc)
close_found b (c ∷ others) e = both (nat_eq b 42) (nat_eq 47 c) e (λ t s.
    let first : b ≡ 42 = eqb-true b 42 t in
    let second : 47 ≡ c = eqb-true 47 c s in
    record { front = 42 ∷ (47 ∷ []); rest = others; parts = rw (first, ← second) refl; ends = close; counted = refl })

-- a mark that doesn't close doesn't close before less of the text either, and the other way round
not_closed : (b : ℕ) (others front rest : List ℕ) → others ≡ front ++ rest → EndsBlock front
    → begins_close (b ∷ others) ≡ false → begins_close (b ∷ front) ≡ false
not_closed b others front rest e (close) h = rw e at h
not_closed b others front rest e (inside c r) h = rw e at h

pub block_found : (len total : ℕ) (bytes : List ℕ) → block_at len bytes ≡ Some total
    → (count : ℕ) × (total ≡ len + count) × BlockFront bytes count
unfolding block_at
block_found len total [] e = absurd cc
block_found len total (b ∷ others) e =
    chosen (begins_close (b ∷ others)) e
    (λ t x. (2, sym (same_Some _ _ x), close_found b others t))
    (λ t x.
    let more = block_found (len + 1) total others x in
    let f = more.2 in (
      more.0 + 1,
      omega (arith, more.1),
      record {
        front = b ∷ f.front;
        rest = f.rest;
        parts = ap (λ xs. b ∷ xs) f.parts;
        ends = inside (not_closed b others f.front f.rest f.parts f.ends t) f.ends;
        counted = omega (arith, f.counted);
      },
    ))

still_open : (b : ℕ) (others rest : List ℕ) → EndsBlock others → begins_close (b ∷ others) ≡ false
    → begins_close (b ∷ (others ++ rest)) ≡ false
still_open b others rest (close) h = h
still_open b others rest (inside c r) h = h

pub block_exact : (len : ℕ) (rest : List ℕ) {bytes : List ℕ} → EndsBlock bytes
    → block_at len (bytes ++ rest) ≡ Some (len + length bytes)
unfolding block_at
block_exact len rest (close) = refl
block_exact len rest (inside {b} {others} c r) =
    let same : len + 1 + length others ≡ len + length (b ∷ others) = omega arith in
    rw (still_open b others rest r c) (block_exact (len + 1) rest r ∙ ap (λ n. Some n) same)
