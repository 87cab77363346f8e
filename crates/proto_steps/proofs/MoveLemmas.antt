-- Steps that take a token, and steps that take none back.
use Rattle.std.proofs.Common.{◌≡◌, ◌<◌, ◌≤◌, List, Ok, length, ◌⊎◌, inl, inr, ap, arith}
use Rattle.proto_grammar.specs.Lexeme.{Lexeme, Place}
use Rattle.proto_steps.specs.Step.{Step, Done, Never, Take, Peek, Then, If, While, Count, Kept, Derives, run}
use Rattle.proto_steps.proofs.StepLaws.{taken, found}
use Rattle.proto_steps.proofs.FirstLemmas.{less_of}

-- Whatever is read, a token is taken.
abbrev pub Moves : {A : Type 0} → Step A → Type 0
Moves (Done v) = ⊥
Moves (Never fault) = Unit {0}
Moves (Take terminal) = Unit {0}
Moves (Peek example next) = (t : Lexeme) → Moves (next t)
Moves (Then {A} p next) = Moves p ⊎ ((x : A) → Moves (next x))
Moves (If test p q) = Moves p × Moves q
Moves (While goes step s) = ⊥
Moves (Count example next n) = ⊥
Moves (Kept p) = Moves p

pub moves : {A : Type 0} (p : Step A) → Moves p → (a b : List Lexeme) (x : A) → Derives p a x b → length b < length a
moves (Done v) k a b x d = absurd k
moves (Never fault) k a b x d = absurd d
moves (Take terminal) k a b x d = omega (arith, ap length d.1)
moves (Peek example next) k a b x d = moves (next d.0) (k d.0) a b x d.3
moves (Then p next) (inl k) a c y d =
    let less = less_of (taken (next d.0) d.1 c y d.3) in omega (arith, less, moves p k a d.1 d.0 d.2)
moves (Then p next) (inr k) a c y d =
    let less = less_of (taken p a d.1 d.0 d.2) in omega (arith, less, moves (next d.0) (k d.0) d.1 c y d.3)
moves (If test p q) k a b x (inl d) = moves p k.0 a b x d.1
moves (If test p q) k a b x (inr d) = moves q k.1 a b x d.1
moves (While goes step s) k a b x d = absurd k
moves (Count example next n) k a b x d = absurd k
moves (Kept p) k a b x d = moves p k a b x.0 d.0

-- the same of what is read
pub shorter : {A : Type 0} (p : Step A) → Moves p → (place after : Place) (x : A) → run p place ≡ Ok (x, after)
    → length after.left < length place.left
shorter p k place after x e = moves p k place.left after.left x (found p place (x, after) e)

pub no_longer : {A : Type 0} (p : Step A) (place after : Place) (x : A) → run p place ≡ Ok (x, after)
    → length after.left ≤ length place.left
no_longer p place after x e = less_of (taken p place.left after.left x (found p place (x, after) e))
