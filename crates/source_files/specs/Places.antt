-- A place where a file is to be, and a part, which is written before it is put there.
use Rattle.std.specs.Prelude.{◌≡◌, ⊤, ℕ, Bool, true, false, List, [], Option, None, Some, Result, Ok, Err, All, Contains}
use Rattle.source_tree.specs.Files.{TreeFile}
use Rattle.source_files.specs.Roots.{path_below}

-- what is known to be held is nothing
abbrev pub HoldsNothing : Option (List ℕ) → Type 0
HoldsNothing None = ⊤
HoldsNothing (Some held) = held ≡ []

-- a part that is begun: nothing was written to it, and no write has failed
pub record IsBegun {W : Type 0} (contents : W → Option (List ℕ)) (failures : W → ℕ) (part : W) : Type 0 where
  pub nothing : HoldsNothing (contents part)
  pub unfailed : failures part ≡ 0

-- The place holds what the part holds; or it refuses the part, and is as it was. `refuses` is what is known then.
abbrev pub Puts : {P W E : Type 0} → (holds : P → Option (List ℕ)) → (refuses : P → W → Type 0)
    → (contents : W → Option (List ℕ)) → (before after : P) → (part : W) → Result (Unit {0}) E → Type 0
Puts holds refuses contents before after part (Ok done) = holds after ≡ contents part
Puts holds refuses contents before after part (Err refused) = refuses before part × (after ≡ before)

-- A file of a tree could be read and is said to be, below a root, the file that is at a place, or it isn't. `same` is
-- what asking about a path may answer.
abbrev pub IsSaid : (same : List ℕ → Bool → Type 0) → (root : List ℕ) → (answer : Bool) → TreeFile → Type 0
IsSaid same root true file = (file.is_unread ≡ false) × same (path_below root file.path) true
IsSaid same root false file = file.is_unread ≡ false → same (path_below root file.path) false

-- Whether one of the files of a tree is said to be it: one is, or each isn't.
abbrev pub IsAskedBelow : (same : List ℕ → Bool → Type 0) → (root : List ℕ) → List TreeFile → Bool → Type 0
IsAskedBelow same root tree true = (file : TreeFile) × Contains tree file × IsSaid same root true file
IsAskedBelow same root tree false = All (IsSaid same root false) tree

-- the same of several roots
abbrev pub IsAsked : (same : List ℕ → Bool → Type 0) → (roots : List (List ℕ)) → List TreeFile → Bool → Type 0
IsAsked same roots tree true = (root : List ℕ) × Contains roots root × IsAskedBelow same root tree true
IsAsked same roots tree false = All (λ root. IsAskedBelow same root tree false) roots
