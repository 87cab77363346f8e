-- Answers that are the same.
use Rattle.std.specs.Prelude.{◌↔◌, Bool, true, false, IsTrue}
use mathlib.Core.Bool.{beq}

-- what answers as a test that decides P decides it too
pub same_answer : (P : Type 0) (a b : Bool) → (IsTrue b ↔ P) → IsTrue (beq a b) ↔ (IsTrue a ↔ P)
same_answer P true true e = ((λ _. e), λ _. cc)
same_answer P true false e = ((λ t. cc), λ f. e.1 (f.0 cc))
same_answer P false true e = ((λ t. cc), λ f. f.1 (e.0 cc))
same_answer P false false e = ((λ _. e), λ _. cc)
