-- What a source reaches: what it sees, and, if names in its options are linked, what protoc builds it over; and which
-- files are reachable.
use Rattle.std.specs.Prelude.{◌≡◌, ◌≢◌, ℕ, Bool, true, Some, List, Contains, codes}
use Rattle.std.specs.List.{slice_get}
use Rattle.proto_decl.specs.Facts.{Facts}
use Rattle.proto_decl.specs.declared.declaration.Declaration.{Declaration}
use Rattle.proto_decl.specs.declared.declaration.DeclarationKind.TheVariants.{Message}
use Rattle.proto_visibility.specs.declared.options.OptionsIn.{OptionsIn}
use Rattle.proto_visibility.specs.declared.options.OptionsIn.TheVariants.{Nowhere, At, Several}
use Rattle.proto_visibility.specs.Files.{File, HasFacts, HasPathAt, IsPresent, IsSource, Imports}
use Rattle.proto_visibility.specs.Sees.{Sees}

-- Imports lead from the one file to the other: of every kind, in any number.
pub data ImportsLeadTo (files : List File) : ℕ → ℕ → Type 0 where
  at_once : {file : ℕ} → ImportsLeadTo files file file
  through : {file next last : ℕ} {publicly : Bool} → Imports files file publicly next → ImportsLeadTo files next last
      → ImportsLeadTo files file last

-- names in the options of the file with this number are linked
pub record LinksOptions (files : List File) (number : ℕ) : Type 0 where
  pub file : File
  pub numbered : slice_get files number ≡ Some file
  pub links : file.links_options ≡ true

-- ---- where the messages of options are (protoc's descriptor.proto)

-- the path of the file that protoc comes with, which declares them
abbrev pub descriptor_path : List ℕ
descriptor_path = codes "google/protobuf/descriptor.proto"

-- The file with this number has the messages of options: that file does, and so does a copy of it at another path.
pub record IsDescriptor (files : List File) (number : ℕ) : Type 0 where
  pub facts : Facts
  pub declaration : Declaration
  pub known : HasFacts files number facts
  pub listed : Contains facts.declarations declaration
  pub message : declaration.kind ≡ Message
  pub named : declaration.full_name ≡ codes "google.protobuf.FileOptions"

-- Where a source has the messages of its options: in each such file that its imports lead to. If they lead to none, it is
-- the file that protoc comes with, by its path.
pub data HasOptionsIn (files : List File) (source : ℕ) : ℕ → Type 0 where
  imported : {number : ℕ} → ImportsLeadTo files source number → IsDescriptor files number
      → HasOptionsIn files source number
  built_in : {number : ℕ} → ((other : ℕ) → ImportsLeadTo files source other → IsDescriptor files other → ⊥)
      → HasPathAt files descriptor_path number → HasOptionsIn files source number

-- so it is in no file, in this one and no other, or in several
abbrev pub IsOptionsIn : List File → (source : ℕ) → OptionsIn → Type 0
IsOptionsIn files source Nowhere = (number : ℕ) → HasOptionsIn files source number → ⊥
IsOptionsIn files source (At number) =
    HasOptionsIn files source number × ((other : ℕ) → HasOptionsIn files source other → other ≡ number)
IsOptionsIn files source Several =
    (one : ℕ) × (other : ℕ) × HasOptionsIn files source one × HasOptionsIn files source other × (one ≢ other)

-- ---- what is reached

-- What a source reaches: what it sees. If names in its options are linked, also what its imports lead to, and what the
-- imports of a file lead to in which it has the messages of its options.
pub data Reaches (files : List File) : ℕ → ℕ → Type 0 where
  sees : {source file : ℕ} → Sees files source file → Reaches files source file
  imports : {source file : ℕ} → LinksOptions files source → ImportsLeadTo files source file
      → Reaches files source file
  built_in : {source first file : ℕ} → LinksOptions files source → HasOptionsIn files source first
      → ImportsLeadTo files first file → Reaches files source file

-- A file is reachable if it is a source, or an included file that a source reaches, and isn't left out. Of others there
-- are only the names that they give where they are seen.
pub data IsReachable (files : List File) : ℕ → Type 0 where
  reached : {source file : ℕ} → IsSource files source → Reaches files source file → IsPresent files file
      → IsReachable files file
