-- Marks of numbers: what is marked, and what isn't.
use Rattle.std.proofs.Common.{◌≡◌, ℕ, ◌<◌, ◌≤◌, ◌%◌, Bool, true, List, length, get_or}
use Rattle.std.proofs.Common.{false, replicate, ap, sym, ◌∙◌, subst, arith}
use Rattle.std.proofs.lemmas.Bool.{false≢true}
use Rattle.std.proofs.lemmas.List.{get_or_past, get_or-replicate}
use Rattle.option_link.specs.Marks.{IsMarked}

-- ---- none

pub none_marked : (marks : List Bool) (count : ℕ) → 65536 ≤ count → marks ≡ replicate count false → (number : ℕ)
    → IsMarked marks number → ⊥
none_marked marks count all made number marked =
    let within : number % 65536 < count = omega (arith, all) in
    false≢true (sym (get_or-replicate count (number % 65536) false true within)
    ∙ (sym (ap (λ xs. get_or xs (number % 65536) true) made) ∙ marked))

-- ---- one mark

pub no_mark : (marks : List Bool) (number place : ℕ) → place ≡ number % 65536 → length marks ≤ place
    → IsMarked marks number
no_mark marks number place is past =
    subst (λ n. get_or marks n true ≡ true) is (get_or_past marks place true past)
