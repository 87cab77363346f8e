-- How long a string literal is.
use Rattle.std.proofs.Common.{◌≡◌, ◌∙◌, ap, refl, List, [], ◌∷◌, ℕ, ◌+◌, Bool, true, false, cond, arith}
use Rattle.std.specs.Prelude.{nat_eq}
use Rattle.proto_lex.specs.Ascii.{backslash}
use Rattle.diagnostics.specs.Places.{closing_len}
use Rattle.diagnostics.specs.Tables.Steps.{closing_from}

either : (t : Bool) (x : ℕ) → cond t x x ≡ x
either true x = refl
either false x = refl

next : (quote second : ℕ) (others : List ℕ) (closed escape : Bool)
    → closing_from quote false others ≡ closing_len quote others
    → closing_from quote false (second ∷ others) ≡ closing_len quote (second ∷ others)
    → ◌≡◌ {A = ℕ} (cond closed 1 (1 + closing_from quote escape (second ∷ others)))
    (cond closed 1 (cond escape (2 + closing_len quote others) (1 + closing_len quote (second ∷ others))))
next quote second others true escape h i = refl
next quote second others false true h i = ap (λ (n : ℕ). 1 + (1 + n)) h ∙ omega arith
next quote second others false false h i = ap (λ (n : ℕ). 1 + n) i

-- byte by byte it is as long
pub from_is_len : (quote : ℕ) (bytes : List ℕ) → closing_from quote false bytes ≡ closing_len quote bytes
from_is_len quote [] = refl
from_is_len quote (byte ∷ []) = either (nat_eq byte quote) 1
from_is_len quote (byte ∷ second ∷ others) =
    next quote second others (nat_eq byte quote) (nat_eq byte backslash) (from_is_len quote others)
    (from_is_len quote (second ∷ others))
