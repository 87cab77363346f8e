-- Looking for files by their paths.
use Rattle.std.specs.Prelude.{◌≡◌, ◌⊎◌, ℕ, ⊤, Bool, true, false, List, ◌∷◌, ◌++◌, Option, Some, None, Result, Ok, Err}
use Rattle.std.specs.Prelude.{string_bytes}
use Rattle.std.specs.Borrow.{Bor}
use Rattle.std.specs.List.{AllZip}
use Rattle.source_files.specs.Reached.{Import, IsFirstBelow, HasNone, IsTold, CantBeRead, path_of}
use Rattle.source_files.specs.declared.load_fault.LoadFault.{LoadFault}
use Rattle.source_files.specs.declared.load_fault.LoadFault.TheVariants.{Unreadable, Memory}
use Rattle.source_files.specs.declared.looking.Looked.{Looked}
use Rattle.source_files.specs.declared.looking.Looked.TheVariants.{Found, LeftOut, Nowhere}

-- the first root that has a file with a path, and its number, if one has
abbrev pub IsFirstIfAny : (finds : List ℕ → List ℕ → Bool → Type 0) → (path : List ℕ) → (roots : List (List ℕ))
    → Option (ℕ × Bor (List ℕ)) → Type 0
IsFirstIfAny finds path roots None = HasNone finds roots path
IsFirstIfAny finds path roots (Some found) = IsFirstBelow finds path roots found.0 found.1.now

-- what is said of a path whose file isn't read
abbrev pub UnreadGives : (leaves_out : Bool) → (path : List ℕ) → Result Looked LoadFault → Type 0
UnreadGives leaves_out path (Ok (LeftOut left)) = (leaves_out ≡ true) × (string_bytes left ≡ path)
UnreadGives leaves_out path (Err (Unreadable name)) = (leaves_out ≡ false) × (string_bytes name ≡ path)
UnreadGives leaves_out path other = ⊥

module _ (finds : List ℕ → List ℕ → Bool → Type 0) (gives : List ℕ → Option (List ℕ) → Type 0)
    (tells : List ℕ → List Import → Type 0)
    (leaves_out is_wanted : Bool)
    (roots : List (List ℕ)) where
  -- a file can't be read, or it has to be there, and is nowhere
  abbrev pub IsLacking : (path : List ℕ) → Type 0
  IsLacking path = CantBeRead finds gives roots path ⊎ ((is_wanted ≡ true) × HasNone finds roots path)

  -- why looking for the file with a path stops
  abbrev pub StopsLooking : (path : List ℕ) → LoadFault → Type 0
  StopsLooking path (Unreadable name) = (leaves_out ≡ false) × (string_bytes name ≡ path) × IsLacking path
  StopsLooking path Memory = ⊤
  StopsLooking path other = ⊥

  -- what looking for the file with a path gives
  abbrev pub GivesLooked : (path : List ℕ) → Result Looked LoadFault → Type 0
  GivesLooked path (Ok (Found told)) = (path_of told ≡ path) × IsTold finds gives tells roots told
  GivesLooked path (Ok (LeftOut left)) = (leaves_out ≡ true) × (string_bytes left ≡ path) × IsLacking path
  GivesLooked path (Ok (Nowhere left)) =
      (is_wanted ≡ false) × (string_bytes left ≡ path) × HasNone finds roots path
  GivesLooked path (Err fault) = StopsLooking path fault

-- what looking for each of some files gives, by what it gives for each path
module _ (gives_looked : (path : List ℕ) → Result Looked LoadFault → Type 0) where
  abbrev pub AreLooked : (paths : List (List ℕ)) → List Looked → Type 0
  AreLooked paths all = AllZip (λ path looked. gives_looked path (Ok looked)) paths all

  -- the first of these paths at which it stops
  pub record StopsAt (paths : List (List ℕ)) (fault : LoadFault) : Type 0 where
    pub before : List (List ℕ)
    pub all : List Looked
    pub path : List ℕ
    pub behind : List (List ℕ)
    pub paths_are : paths ≡ before ++ path ∷ behind
    pub looked : AreLooked before all
    pub stops : gives_looked path (Err fault)

  -- why it stops; nothing is said about memory
  abbrev pub MayStopLooking : (paths : List (List ℕ)) → LoadFault → Type 0
  MayStopLooking paths Memory = ⊤
  MayStopLooking paths fault = StopsAt paths fault
