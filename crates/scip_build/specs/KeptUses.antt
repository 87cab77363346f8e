-- What a use of a kept file names, among all files and among those that are kept.
use Rattle.std.specs.Prelude.{◌≡◌, ◌<◌, ℕ, Bool, List, length}
use Rattle.proto_decl.specs.declared.uses.Use.{Use}
use Rattle.proto_visibility.specs.declared.clash.Duplicates.{Duplicates}
use Rattle.proto_visibility.specs.Files.{File}
use Rattle.proto_visibility.specs.Kept.{Omissions, IsKeptFile, number_among_all}
use Rattle.proto_link.specs.declared.target.Target.{Target}
use Rattle.proto_link.specs.Targets.{IsTarget}
use Rattle.proto_link.specs.Parts.{target_at}
use Rattle.scip_build.specs.declared.omission.Omission.{Omission}
use Rattle.scip_build.specs.Files.{ReadFile}
use Rattle.scip_build.specs.Keeping.{kept_numbers}
use Rattle.scip_build.specs.Linking.{linked_files}
use Rattle.scip_build.specs.Kept.{AreKept}

-- what a use names among the kept files is this among all files: files have other numbers there
abbrev pub target_among_all : Omissions → Target → Target
target_among_all omissions = target_at (number_among_all omissions)

-- a use of a file, by its number among all, names this, and the file that declares it is kept
abbrev pub IsTargetOfKept : List File → Omissions → (number : ℕ) → Use → Target → Type 0
IsTargetOfKept files omissions number type_use target =
    (is : IsTarget files number type_use target) × IsKeptFile omissions is.owner

-- among the files as they are linked the use names this, by the numbers that files have there
pub record NamesTheSame (linked : List File) (omissions : Omissions) (number : ℕ) (type_use : Use)
    (target : Target) : Type 0 where
  pub own : Target
  pub is_target : IsTarget linked number type_use own
  pub same : target_among_all omissions own ≡ target

-- A use of a kept file that names something, though some files are left out, names the same in the whole tree. And what
-- it names in the whole tree it names, if the file that declares it is kept. In the whole tree files that can't be read
-- give no names.
pub record ResolveAlike (all linked : List File) (omissions : Omissions) (number : ℕ) (type_use : Use) : Type 0 where
  pub never_invented : (target : Target) → IsTarget linked number type_use target
      → IsTargetOfKept all omissions (number_among_all omissions number) type_use (target_among_all omissions target)
  pub never_lost : (target : Target)
      → IsTargetOfKept all omissions (number_among_all omissions number) type_use target
      → NamesTheSame linked omissions number type_use target

abbrev pub KeptResolvesAlike : Type 0
KeptResolvesAlike = (duplicates : Duplicates) (asks : Bool) (all parsed : List ReadFile) (told : List Omission)
    (kept : AreKept duplicates asks all parsed told)
    → (number : ℕ) (type_use : Use) → number < length (kept_numbers 0 kept.omissions)
    → ResolveAlike (linked_files all) (linked_files parsed) kept.omissions number type_use
