-- What is asked of the files of a document or an index, which uses of a source name no type, and why a document is
-- refused.
use Rattle.std.specs.Prelude.{◌≡◌, ℕ, Some, List, ◌∷◌, ◌++◌, All, Contains, Option, [], MatchOption, ⊤}
use Rattle.std.specs.List.{slice_get}
use Rattle.proto_lex.specs.declared.span.Span.{Span}
use Rattle.proto_decl.specs.Facts.{Facts, AreOfSomeFile}
use Rattle.proto_decl.specs.declared.uses.Use.{Use}
use Rattle.proto_visibility.specs.Files.{File, HasFacts, IsSource}
use Rattle.proto_visibility.specs.declared.fault.LinkFault.{LinkFault}
use Rattle.proto_visibility.specs.declared.fault.LinkFault.TheVariants.{Broken, Duplicate, MissingImport, Unresolved}
use Rattle.proto_visibility.specs.declared.fault.LinkFault.TheVariants.{Ambiguous, Memory}
use Rattle.proto_link.specs.Targets.{Names, IsUnresolved, IsTarget}
use Rattle.proto_link.specs.declared.target.Target.{Target}
use Rattle.scip_symbol.specs.Path.{IsGoodPath}

-- each file has a good path
abbrev pub HaveGoodPaths : List File → Type 0
HaveGoodPaths files = (number : ℕ) (file : File) → slice_get files number ≡ Some file → IsGoodPath file.path

-- the use names a type
abbrev pub IsResolved : List File → (file : ℕ) → Use → Type 0
IsResolved files file type_use = (name : List ℕ) × (owner : ℕ) × Names files file type_use name owner

-- each use of each source does
abbrev pub AllResolve : List File → Type 0
AllResolve files = (source : ℕ) (facts : Facts) (type_use : Use) → IsSource files source → HasFacts files source facts
    → Contains facts.uses type_use → IsResolved files source type_use

-- The first use of a file that names no type, and where it is: uses are in order of place.
pub record IsFirstUnresolved (files : List File) (file : ℕ) (span : Span) : Type 0 where
  pub facts : Facts
  pub known : HasFacts files file facts
  pub before : List Use
  pub type_use : Use
  pub behind : List Use
  pub split : facts.uses ≡ before ++ type_use ∷ behind
  pub resolved : All (IsResolved files file) before
  pub unresolved : IsUnresolved files file type_use
  pub place : type_use.span ≡ span

-- each use of a file names a type
abbrev pub UsesResolve : List File → (file : ℕ) → Type 0
UsesResolve files file = (facts : Facts) (type_use : Use) → HasFacts files file facts → Contains facts.uses type_use
    → IsResolved files file type_use

-- ---- the uses of a source that name no type: they don't occur in its document

-- what a use of a file names, if it names a type
abbrev pub IsFound : List File → (file : ℕ) → Use → Option Target → Type 0
IsFound files file type_use found = MatchOption found (IsUnresolved files file type_use) (IsTarget files file type_use)

-- The places of those in a list that lack something, in order, and no others: each has it, or lacks it.
pub data ListsUnresolved {X : Type 0} (Has Lacks : X → Type 0) (span_of : X → Span) : List X → List Span → Type 0 where
  at_end : ListsUnresolved Has Lacks span_of [] []
  has : {x : X} {xs : List X} {spans : List Span} → Has x → ListsUnresolved Has Lacks span_of xs spans
      → ListsUnresolved Has Lacks span_of (x ∷ xs) spans
  lacks : {x : X} {xs : List X} {spans : List Span} → Lacks x → ListsUnresolved Has Lacks span_of xs spans
      → ListsUnresolved Has Lacks span_of (x ∷ xs) (span_of x ∷ spans)

-- the places of the uses of a source that name no type; each of the others names one
pub record AreUnresolvedUses (files : List File) (source : ℕ) (spans : List Span) : Type 0 where
  pub facts : Facts
  pub known : HasFacts files source facts
  pub uses_are : ListsUnresolved (IsResolved files source) (IsUnresolved files source)
      (λ type_use. type_use.span) facts.uses spans

-- ---- the text of a source, and why its document is refused

-- the facts are those of a file with this text
pub record AreOfText (text : List ℕ) (facts : Facts) : Type 0 where
  pub origin : AreOfSomeFile facts
  pub text_is : origin.lexed.text ≡ text

-- the file has this text
abbrev pub HasText : List File → (file : ℕ) → (text : List ℕ) → Type 0
HasText files file text = (facts : Facts) → HasFacts files file facts → AreOfText text facts

-- The document of a source is refused at its first use that names no type, kept or not. Nothing is said about memory.
abbrev pub MayRefuseDocument : List File → (source : ℕ) → LinkFault → Type 0
MayRefuseDocument files source (Unresolved place) = (place.file ≡ source) × IsFirstUnresolved files source place.span
MayRefuseDocument files source (Ambiguous place) = ⊥
MayRefuseDocument files source (Broken number) = ⊥
MayRefuseDocument files source (Duplicate first second) = ⊥
MayRefuseDocument files source (MissingImport place) = ⊥
MayRefuseDocument files source Memory = ⊤
