-- Declarations of files, by their places.
use Rattle.std.specs.Prelude.{◌≡◌, ℕ, Some, List, Contains}
use Rattle.std.specs.List.{slice_get}
use Rattle.proto_decl.specs.Facts.{Facts}
use Rattle.proto_decl.specs.declared.declaration.Declaration.{Declaration}
use Rattle.proto_decl.specs.declared.declaration.DeclarationKind.{DeclarationKind}
use Rattle.proto_visibility.specs.Files.{File, HasFacts}
use Rattle.option_link.specs.declared.place.DeclaredPlace.{DeclaredPlace}

-- What a file declares at a place.
pub record Stands (files : List File) (at : DeclaredPlace) (declaration : Declaration) : Type 0 where
  pub facts : Facts
  pub known : HasFacts files at.file facts
  pub listed : slice_get facts.declarations at.index ≡ Some declaration

abbrev pub place_at : (file index : ℕ) → DeclaredPlace
place_at file index = record { file = file; index = index }

-- The same, of this kind, with a full name that no other declaration of the file has. In a file that some source sees
-- each has one.
pub record StandsAs (files : List File) (kind : DeclarationKind) (at : DeclaredPlace)
    (declaration : Declaration) : Type 0 where
  pub stands : Stands files at declaration
  pub is : declaration.kind ≡ kind
  pub alone : (other : ℕ) (its : Declaration) → Stands files (place_at at.file other) its
      → its.full_name ≡ declaration.full_name → other ≡ at.index

-- a file declares a full name
pub record IsDeclaredIn (files : List File) (number : ℕ) (name : List ℕ) : Type 0 where
  pub facts : Facts
  pub known : HasFacts files number facts
  pub declaration : Declaration
  pub listed : Contains facts.declarations declaration
  pub named : declaration.full_name ≡ name
