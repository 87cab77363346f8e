-- What `--well-known` includes, and what is said of it. (The texts are this project's own.)
use Rattle.std.specs.Prelude.{◌≡◌, ℕ, Bool, true, false, List, [], ◌∷◌, ◌++◌, Option, Some, None, Result, Ok, Err}
use Rattle.std.specs.Prelude.{String, codes}
use Rattle.std.specs.Global.{Global}
use Rattle.std.specs.List.{list_any}
use Rattle.std.specs.Str.{bytes_eq}
use Rattle.std.specs.declared.alloc.AllocError.{AllocError}
use Rattle.std.specs.declared.env.VarError.{VarError}
use Rattle.std.specs.declared.env.VarError.TheVariants.{NotPresent, NotUnicode, OutOfMemory}
use Rattle.streams.specs.Writers.{AreTold, IsSaid, IsUntouched, Writer}
use Rattle.source_files.specs.WellKnown.{IsWellKnown}
use Rattle.command_line.specs.declared.options.IndexOptions.{IndexOptions}
use Rattle.command_line.specs.declared.request.Request.{Request}
use Rattle.command_line.specs.declared.request.Request.TheVariants as request
use Rattle.programs.specs.Folders.{included_in, included_packages, roots_in}
use Rattle.programs.specs.Settings.{package_in}

-- what the system gives for a variable: its text; none if there is none, or if it isn't UTF-8
abbrev pub IsVariable : Result (String Global) VarError → Result (Option (String Global)) AllocError → Type 0
IsVariable (Ok text) given = given ≡ Ok (Some text)
IsVariable (Err NotPresent) given = given ≡ Ok None
IsVariable (Err NotUnicode) given = given ≡ Ok None
IsVariable (Err OutOfMemory) (Ok text) = ⊥
IsVariable (Err OutOfMemory) (Err refused) = Unit {0}

-- ---- what is said

-- if there is no folder with these files
abbrev pub none_line : List ℕ
none_line =
    codes "protoscip: no well-known files: not beside a protoc on the PATH, nor in /usr/local/include or /usr/include"

-- which folder it is; this is said if faults are explained
abbrev pub found_lines : (explain : Bool) → (folder : List ℕ) → List (List ℕ)
found_lines true folder = (codes "protoscip: well-known files: " ++ folder) ∷ []
found_lines false folder = []

-- ---- what is included

-- the same options with one folder more, behind all others, whose files belong to the package of the run
pub record AddsFolder (folder : List ℕ) (old new : IndexOptions) : Type 0 where
  pub folders : included_in new ≡ included_in old ++ folder ∷ []
  pub packages : included_packages new ≡ included_packages old ++ package_in old ∷ []
  pub others : new ≡ record old { include = new.include; include_packages = new.include_packages }

-- a folder is among those that are read
abbrev pub is_read : (folder : List ℕ) → IndexOptions → Bool
is_read folder options = list_any (λ one. bytes_eq one folder) (roots_in options)

-- it is added, if it isn't
pub data AddsNew (folder : List ℕ) (old new : IndexOptions) : (is_new : Bool) → Type 0 where
  stays : is_read folder old ≡ true → new ≡ old → AddsNew folder old new false
  adds : is_read folder old ≡ false → AddsFolder folder old new → AddsNew folder old new true

-- the folder with the well-known files is included, unless it is read already; and it is said which it is
pub data IncludesFound {M : Type 0} (messages : Writer M) (folder : List ℕ) (old new : IndexOptions)
    : (known : Option (List ℕ)) → Type 0 where
  is_old : AddsNew folder old new false → AreTold messages (found_lines old.explain folder)
      → IncludesFound messages folder old new None
  is_new : AddsNew folder old new true → AreTold messages (found_lines old.explain folder)
      → IncludesFound messages folder old new (Some folder)

-- `finds` is what asking whether a regular file has a path may answer, and `path` is the PATH
module _ (finds : List ℕ → Bool → Type 0) (path : Option (List ℕ)) where
  -- What options become, and which root has the well-known files alone. If these aren't asked for, all stays as it is,
  -- and so if no folder has them, which is said.
  pub data Includes {M : Type 0} (messages : Writer M) (old new : IndexOptions) : (known : Option (List ℕ)) → Type 0
    where
      unasked : old.well_known ≡ false → new ≡ old → IsUntouched messages → Includes messages old new None
      none_found : old.well_known ≡ true → IsWellKnown finds path None → new ≡ old → IsSaid messages none_line
          → Includes messages old new None
      found : {folder : List ℕ} {known : Option (List ℕ)} → old.well_known ≡ true
          → IsWellKnown finds path (Some folder) → IncludesFound messages folder old new known
          → Includes messages old new known

  -- the same of what is asked for: `index` and `shell` have these options
  abbrev pub IncludesIn : {M : Type 0} → Writer M → (asked now : Request) → (known : Option (List ℕ)) → Type 0
  IncludesIn messages (request.Index given) (request.Index now) known =
      Includes messages given.options now.options known × (now ≡ record given { options = now.options })
  IncludesIn messages (request.Shell given) (request.Shell now) known =
      Includes messages given.options now.options known × (now ≡ record given { options = now.options })
  IncludesIn messages asked now known = (now ≡ asked) × (known ≡ None) × IsUntouched messages
