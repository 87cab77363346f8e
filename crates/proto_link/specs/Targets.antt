-- What each component of a use names.
use Rattle.std.specs.Prelude.{◌≡◌, ◌≢◌, ⊤, ℕ, ◌+◌, Some, List, length, Contains}
use Rattle.std.specs.List.{slice_get}
use Rattle.proto_decl.specs.Names.{components_of, prefix_of}
use Rattle.proto_decl.specs.Facts.{Facts}
use Rattle.proto_decl.specs.declared.uses.Use.{Use}
use Rattle.proto_visibility.specs.declared.fault.LinkFault.{LinkFault}
use Rattle.proto_visibility.specs.declared.fault.LinkFault.TheVariants.{Broken, Duplicate, MissingImport, Unresolved}
use Rattle.proto_visibility.specs.declared.fault.LinkFault.TheVariants.{Ambiguous, Memory}
use Rattle.proto_visibility.specs.declared.lookup.Entity.{Entity}
use Rattle.proto_link.specs.declared.target.Target.{Target}
use Rattle.proto_visibility.specs.Files.{File, HasFacts}
use Rattle.proto_visibility.specs.Knows.{IsEntityOf, IsGivenTwice, IsOwner}
use Rattle.proto_link.specs.Resolves.{Resolves, wanted}

-- The full name of the type that a use of this file names, and the file that declares it: of the files that are seen
-- no other one declares a type of that name, and it isn't left out.
pub record Names (files : List File) (file : ℕ) (type_use : Use) (name : List ℕ) (owner : ℕ) : Type 0 where
  pub resolves : Resolves files file type_use name
  pub owned : IsOwner files file (wanted type_use.is_extended) name owner

-- Let a use with k components name a full name of m. The first m - k components of the full name are skipped. Component
-- number j (from 0) of the use names the entity of the full name up to its component number j after these, in the file
-- that declares the type: it is what encloses that very declaration.
pub record IsTarget (files : List File) (file : ℕ) (type_use : Use) (target : Target) : Type 0 where
  pub owner : ℕ
  pub facts : Facts
  pub names : Names files file type_use target.name owner
  pub known : HasFacts files owner facts
  pub skipped : ℕ
  pub split : skipped + length type_use.components ≡ length (components_of target.name)
  pub one_each : length target.parts ≡ length type_use.components
  pub named : (j : ℕ) (part : Entity) → slice_get target.parts j ≡ Some part
      → IsEntityOf owner facts (prefix_of target.name (skipped + j + 1)) (skipped + j + 1) part

-- the use names nothing
abbrev pub IsUnresolved : List File → ℕ → Use → Type 0
IsUnresolved files file type_use = (name : List ℕ) (owner : ℕ) → Names files file type_use name owner → ⊥

-- Several of the files that are seen declare the type that it resolves to, and aren't left out.
pub record IsAmbiguous (files : List File) (file : ℕ) (type_use : Use) : Type 0 where
  pub name : List ℕ
  pub resolves : Resolves files file type_use name
  pub twice : IsGivenTwice files file (wanted type_use.is_extended) name

-- A use is refused if it names nothing, at the place of the whole use: as ambiguous, if it is. Nothing is said about
-- memory.
abbrev pub MayRefuseUse : List File → ℕ → Use → LinkFault → Type 0
MayRefuseUse files file type_use (Unresolved place) =
    IsUnresolved files file type_use × (IsAmbiguous files file type_use → ⊥)
    × (place ≡ record { file = file; span = type_use.span })
MayRefuseUse files file type_use (Ambiguous place) =
    IsAmbiguous files file type_use × (place ≡ record { file = file; span = type_use.span })
MayRefuseUse files file type_use (Broken number) = ⊥
MayRefuseUse files file type_use (Duplicate first second) = ⊥
MayRefuseUse files file type_use (MissingImport place) = ⊥
MayRefuseUse files file type_use Memory = ⊤

-- Why a use names nothing; want of memory is no fault of the use.
pub record IsFaultOfUse (files : List File) (file : ℕ) (type_use : Use) (fault : LinkFault) : Type 0 where
  pub refused : MayRefuseUse files file type_use fault
  pub of_use : fault ≢ Memory

-- why one of these uses of a file does
pub record IsFaultAmong (files : List File) (file : ℕ) (uses : List Use) (fault : LinkFault) : Type 0 where
  pub type_use : Use
  pub listed : Contains uses type_use
  pub is : IsFaultOfUse files file type_use fault

-- why one of a file's uses does
pub record IsUseFault (files : List File) (file : ℕ) (fault : LinkFault) : Type 0 where
  pub facts : Facts
  pub known : HasFacts files file facts
  pub among : IsFaultAmong files file facts.uses fault
