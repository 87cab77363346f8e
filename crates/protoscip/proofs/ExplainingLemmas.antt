-- What is appended in parts.
use Rattle.std.proofs.Common.{◌≡◌, ◌∙◌, ap, ℕ, List, ◌++◌, append_assoc}
use Rattle.std.specs.Prelude.{Result, Ok, Err, OnOk, if◌then◌else◌}
use Rattle.std.specs.Result.{is_ok}

pub two_parts : (out first second a b : List ℕ) → first ≡ out ++ a → second ≡ first ++ b → second ≡ out ++ (a ++ b)
two_parts out first second a b is then_is = then_is ∙ ap (λ (t : List ℕ). t ++ b) is ∙ append_assoc out a b

pub four_parts : (out first second third fourth a b c d : List ℕ) → first ≡ out ++ a → second ≡ first ++ b
    → third ≡ second ++ c → fourth ≡ third ++ d
    → fourth ≡ out ++ (((a ++ b) ++ c) ++ d)
four_parts out first second third fourth a b c d first_is second_is third_is fourth_is =
    two_parts out third fourth ((a ++ b) ++ c) d
    (two_parts out second third (a ++ b) c (two_parts out first second a b first_is second_is) third_is) fourth_is

-- what is pushed unless memory is refused is there at Ok
pub where_ok : {T E : Type 0} (result : Result T E) (new pushed old : List ℕ)
    → new ≡ (if is_ok result then pushed else old) → OnOk result (new ≡ pushed)
where_ok (Ok done) new pushed old is = is
where_ok (Err fault) new pushed old is = tt
