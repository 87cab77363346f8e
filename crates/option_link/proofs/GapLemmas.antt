-- An option has one gap at most: the first of those that there might be.
use Rattle.std.proofs.Common.{◌≡◌, ◌<◌, ℕ, arith}
use Rattle.option_link.specs.Laws.{OneGapAnOption}

neither_first : (n m : ℕ) → (n < m → ⊥) → (m < n → ⊥) → n ≡ m
neither_first n m p q = omega (arith, p, q)

pub one_gap : OneGapAnOption
one_gap files known file text option number other name its gap second =
    neither_first number other (λ before. second.first number name before gap.lacks)
    (λ before. gap.first other its before second.lacks)
