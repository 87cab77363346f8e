-- Lists that have each number below a bound once.
use Rattle.std.specs.Prelude.{◌≡◌, ℕ, nat_lt, ◌==◌, if◌then◌else◌, List, count_by}

-- how often the list has a number
abbrev pub times : ℕ → List ℕ → ℕ
times number xs = count_by (λ x. x == number) xs

-- the list has the numbers below n, each once, and no others
abbrev pub HasEachOnceBelow : ℕ → List ℕ → Type 0
HasEachOnceBelow n xs = (number : ℕ) → times number xs ≡ (if nat_lt number n then 1 else 0)
