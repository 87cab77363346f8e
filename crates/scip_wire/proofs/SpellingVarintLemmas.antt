-- Steps of a shortest varint.
use Rattle.std.proofs.Common.{◌≡◌, ℕ, zero, suc, ◌+◌, ◌/◌, ◌%◌, ◌^◌, ◌<◌, ◌≤◌, true, false, cond, [], ◌∷◌}
use Rattle.std.proofs.Common.{length, refl, sym, ap, ◌∙◌, arith, nat_lt, inl, inr, pow-suc}
use Rattle.std.proofs.lemmas.Bool.{cases_lt}
use Rattle.std.proofs.lemmas.Bool.Decides.{nat_tests}
use Rattle.scip_wire.specs.Spelling.{varint, varint_of_groups}

-- a test that fails, and one that holds
below : (n : ℕ) → n < 128 → nat_lt n 128 ≡ true
below n h = grind (arith, nat_tests)

not_below : (n : ℕ) → 128 ≤ n → nat_lt n 128 ≡ false
not_below n h = grind (arith, nat_tests)

-- one group is left
pub group_last : (further n : ℕ) → n < 128 → varint_of_groups further n ≡ n ∷ []
unfolding varint_of_groups
group_last zero n h = refl
group_last (suc further) n h = rw (below n h) refl

-- more than one group is left
pub group_more : (further n : ℕ) → 128 ≤ n
    → varint_of_groups (suc further) n ≡ (n % 128 + 128) ∷ varint_of_groups further (n / 128)
unfolding varint_of_groups
group_more further n h = rw (not_below n h) refl

-- a number that fits its groups is spelled alike with one more at hand
one_more_group : (further n : ℕ) → n < 128 ^ suc further → varint_of_groups further n ≡ varint_of_groups (suc further) n
one_more_group zero n fits = group_last 0 n (omega arith) ∙ sym (group_last 1 n (omega arith))
one_more_group (suc further) n fits =
    elim (cases_lt n 128) [
      | inl h ↦ group_last (suc further) n h ∙ sym (group_last (suc (suc further)) n h)
      | inr h ↦
          let tail : n / 128 < 128 ^ suc further = omega (arith, pow-suc 128 (suc further)) in
          group_more further n h ∙ ap (λ l. (n % 128 + 128) ∷ l) (one_more_group further (n / 128) tail)
          ∙ sym (group_more (suc further) n h)
    ]

pub varint_last : (n : ℕ) → n < 128 → varint n ≡ n ∷ []
varint_last n h = group_last 9 n h

pub varint_more : (n : ℕ) → 128 ≤ n → n < 2 ^ 64 → varint n ≡ (n % 128 + 128) ∷ varint (n / 128)
varint_more n h fits = group_more 8 n h ∙ ap (λ l. (n % 128 + 128) ∷ l) (one_more_group 8 (n / 128) (omega arith))

-- at most ten bytes
groups_le : (further n : ℕ) → length (varint_of_groups further n) ≤ further + 1
unfolding varint_of_groups
groups_le zero n = omega arith
groups_le (suc further) n =
    elim (nat_lt n 128) as (λ b. length (cond b (n ∷ []) ((n % 128 + 128) ∷ varint_of_groups further (n / 128)))
    ≤ suc further + 1) [
      | true ↦ omega arith
      | false ↦ omega (arith, groups_le further (n / 128))
    ]

pub length-varint-le : (n : ℕ) → length (varint n) ≤ 10
length-varint-le n = groups_le 9 n
