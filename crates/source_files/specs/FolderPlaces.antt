-- A place where a folder is to be, and a folder, in which files are made before it is put there.
use Rattle.std.specs.Prelude.{◌≡◌, ⊤, ℕ, List, [], Option, None, Some, Result, Ok, Err}
use Rattle.source_files.specs.Made.{Made, MadeFile}

-- what is known to be made is nothing
abbrev pub HasNone : Option (List MadeFile) → Type 0
HasNone None = ⊤
HasNone (Some files) = files ≡ []

-- a folder in which nothing was made yet, and nothing was refused
pub record IsEmpty (made : Made) : Type 0 where
  pub nothing : HasNone made.files
  pub unrefused : made.refusals ≡ 0

-- The place has the files of the folder, and no others; or it refuses the folder, and is as it was. `refuses` is what
-- is known then.
abbrev pub PutsFolder : {P F E : Type 0} → (filed : P → List ℕ → Option (List MadeFile))
    → (refuses : P → List ℕ → F → Type 0) → (made : F → Made) → (before after : P) → (path : List ℕ) → (folder : F)
    → Result (Unit {0}) E → Type 0
PutsFolder filed refuses made before after path folder (Ok done) = filed after path ≡ (made folder).files
PutsFolder filed refuses made before after path folder (Err refused) = refuses before path folder × (after ≡ before)
