-- What is said of a fault that is nowhere in a file: the name in its line, what explains it, and the exit status.
use Rattle.std.specs.Prelude.{Bool, ℕ, List, ◌++◌, [], if◌then◌else◌}

-- the explanation is a sentence behind a line end; it is empty for lack of memory
pub record FaultText : Type 0 where
  pub name : List ℕ
  pub explanation : List ℕ
  pub status : ℕ

abbrev pub said : (name explanation : List ℕ) → (status : ℕ) → FaultText
said name explanation status = record { name = name; explanation = explanation; status = status }

-- a line, explained if that is asked for
abbrev pub explained : (explain : Bool) → (line explanation : List ℕ) → List ℕ
explained explain line explanation = line ++ (if explain then explanation else [])
