-- The declarations of included files that uses in sources name, as the code gathers them: each by its file's number and
-- its own.
use Rattle.std.specs.Prelude.{◌≡◌, ◌<◌, ⊤, ℕ, true, false, Some, List, length, Contains}
use Rattle.std.specs.declared.cmp.Ordering.{Ordering}
use Rattle.std.specs.Ordering.{nat_cmp, ordering_then}
use Rattle.std.specs.List.{slice_get}
use Rattle.proto_decl.specs.Facts.{Facts}
use Rattle.proto_decl.specs.declared.declaration.Declaration.{Declaration}
use Rattle.proto_decl.specs.declared.uses.Use.{Use}
use Rattle.index_hooks.specs.declared.choice.Choice.{Choice}
use Rattle.scip_records.specs.declared.records.SymbolInformation.{SymbolInformation}
use Rattle.scip_model.specs.Named.{Home, HasDeclaration}
use Rattle.proto_visibility.specs.Files.{File, HasFacts, IsSource, IsIncludedAt}
use Rattle.proto_visibility.specs.Reaches.{IsReachable}
use Rattle.proto_visibility.specs.Sees.{Sees}
use Rattle.proto_link.specs.Targets.{IsTarget}
use Rattle.proto_visibility.specs.declared.lookup.Entity.{Entity}
use Rattle.proto_visibility.specs.declared.lookup.Entity.TheVariants as link
use Rattle.proto_link.specs.declared.target.Target.{Target}
use Rattle.scip_model.specs.Packages.{Packages}
use Rattle.scip_model.specs.Chosen.{Chosen, HasChoice, IsChosen, IsKeptDeclaration}
use Rattle.scip_model.specs.Detailed.{detail_at}
use Rattle.scip_model.specs.Entries.{declaration_entry, IsKeptEntry}
pub use Rattle.scip_model.specs.Tables.Additions.{Adds, FromFront}

abbrev pub Pair : Type 0
Pair = ℕ × ℕ

-- by file, then by place there
abbrev pub pair_cmp : Pair → Pair → Ordering
pair_cmp x y = ordering_then (nat_cmp x.0 y.0) (nat_cmp x.1 y.1)

module _ (files : List File) (chosen : Chosen) where
  -- a part is a declaration that can be looked up
  abbrev pub IsKnownPart : Entity → Type 0
  IsKnownPart (link.Package count) = ⊤
  IsKnownPart (link.Declared file index) = (file < length files) × HasChoice chosen file index

  -- it is this one, of an included file, and is kept
  pub record IsOfPart (part : Entity) (x : Pair) : Type 0 where
    pub is : part ≡ link.Declared x.0 x.1
    pub file : File
    pub numbered : slice_get files x.0 ≡ Some file
    pub included : file.is_included ≡ true
    pub kept : IsKeptDeclaration chosen x.0 x.1

  pub record IsOfUse (source : ℕ) (type_use : Use) (x : Pair) : Type 0 where
    pub target : Target
    pub is_target : IsTarget files source type_use target
    pub of_parts : FromFront IsOfPart target.parts (length target.parts) x

  pub record IsOfSource (source : ℕ) (x : Pair) : Type 0 where
    pub is_source : IsSource files source
    pub facts : Facts
    pub known : HasFacts files source facts
    pub of_uses : FromFront (IsOfUse source) facts.uses (length facts.uses) x

  -- a use in one of the first so many files names it
  pub record IsExternal (count : ℕ) (x : Pair) : Type 0 where
    pub source : ℕ
    pub within : source < count
    pub of_source : IsOfSource source x

  -- a declaration that is kept, of a reachable file
  pub record IsKeptThere (x : Pair) : Type 0 where
    pub is_reachable : IsReachable files x.0
    pub facts : Facts
    pub declaration : Declaration
    pub has : HasDeclaration files x.0 x.1 facts declaration
    pub kept : IsKeptDeclaration chosen x.0 x.1

-- the entry of a declaration of these facts, with the choice for it
pub record IsEntryAt (chosen : Chosen) (home : Home) (facts : Facts) (file index : ℕ)
    (entry : SymbolInformation) : Type 0 where
  pub declaration : Declaration
  pub choice : Choice
  pub stands : slice_get facts.declarations index ≡ Some declaration
  pub is_chosen : IsChosen chosen file index choice
  pub is : entry ≡ declaration_entry home facts declaration (detail_at facts index) choice

-- the entry of a declaration that is kept
abbrev pub IsEntryOf : List File → Chosen → Packages → Pair → SymbolInformation → Type 0
IsEntryOf files chosen ids x = IsKeptEntry files chosen ids x.0 x.1

-- that of one of these
abbrev pub HasEntryAmong : List File → Chosen → Packages → List Pair → SymbolInformation → Type 0
HasEntryAmong files chosen ids pairs entry =
    (x : Pair) × Contains pairs x × IsEntryOf files chosen ids x entry

-- none of the first so many is
abbrev pub NoneIncluded : List File → (count : ℕ) → Type 0
NoneIncluded files count = (number : ℕ) → number < count → IsIncludedAt files number false

-- the source sees none of the first so many that is included
abbrev pub NoneSeen : List File → (source count : ℕ) → Type 0
NoneSeen files source count =
    (number : ℕ) → number < count → IsIncludedAt files number true → Sees files source number → ⊥
