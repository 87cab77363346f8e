-- What comes of the names in options, as the code gathers it: name by name, option by option.
use Rattle.std.specs.Prelude.{◌≡◌, ◌+◌, ◌<◌, ℕ, Option, Some, None, List, [], ◌∷◌, length, All, MatchOption}
use Rattle.std.specs.List.{slice_get}
use Rattle.std.specs.Option.{option_map_or}
use Rattle.proto_lex.specs.declared.span.Span.{Span}
use Rattle.proto_lex.specs.declared.position.Encoding.{Encoding}
use Rattle.scip_records.specs.declared.records.Occurrence.{Occurrence}
use Rattle.proto_options.specs.declared.names.OptionName.{OptionName}
use Rattle.proto_options.specs.declared.options.FileOption.{FileOption}
use Rattle.option_link.specs.declared.facts.OptionFacts.{OptionFacts}
use Rattle.option_link.specs.declared.place.DeclaredPlace.{DeclaredPlace}
use Rattle.option_link.specs.declared.target.OptionTarget.{OptionTarget}
use Rattle.option_link.specs.OptionNames.{IsGap, IsOptionTarget}
use Rattle.option_link.specs.Uncertain.{IsInDoubt, IsUncertainName}
use Rattle.option_link.specs.declared.target.UncertainName.{UncertainName}
use Rattle.scip_model.specs.declared.option_told.UncertainPlace.{UncertainPlace}
use Rattle.proto_visibility.specs.Files.{File, IsSource}
use Rattle.proto_visibility.specs.declared.lookup.Entity.{Entity}
use Rattle.proto_visibility.specs.declared.lookup.Entity.TheVariants as link
use Rattle.scip_symbol.specs.Entities as symbols
use Rattle.scip_model.specs.Packages.{Packages, package_of_part}
use Rattle.scip_model.specs.Chosen.{Chosen}
use Rattle.scip_model.specs.Named.{IsNamedAs}
use Rattle.scip_model.specs.Occurs.{IsShown, occurrence_over, no_role}
use Rattle.scip_model.specs.Options.{OccursInOptions, span_of_name}
use Rattle.scip_model.specs.Tables.Additions.{FromFront}
use Rattle.scip_model.specs.Tables.ExternalLists.{Pair, IsKnownPart, IsOfPart}

-- ---- where that is which a name names

-- the last of these parts is declared here
pub record IsLastPart (parts : List Entity) (at : DeclaredPlace) : Type 0 where
  pub index : ℕ
  pub last : index + 1 ≡ length parts
  pub is : slice_get parts index ≡ Some (link.Declared at.file at.index)

-- that, or that there is none
abbrev pub IsLastPlace : (parts : List Entity) → Option DeclaredPlace → Type 0
IsLastPlace parts found = MatchOption found ((at : DeclaredPlace) → IsLastPart parts at → ⊥) (IsLastPart parts)

-- one of the parts of a name, an external declaration
abbrev pub IsOfTarget : List File → Chosen → OptionTarget → Pair → Type 0
IsOfTarget files chosen target = FromFront (IsOfPart files chosen) target.parts (length target.parts)

abbrev pub AreKnownParts : List File → Chosen → OptionTarget → Type 0
AreKnownParts files chosen target = All (IsKnownPart files chosen) target.parts

-- ---- gaps

-- what is told of the gap of an option: its number, or that there is none
abbrev pub TellsGap : List File → List OptionFacts → (file : ℕ) → (text : List ℕ) → FileOption → Option ℕ → Type 0
TellsGap files known file text option gap =
    MatchOption gap ((number : ℕ) (name : OptionName) → IsGap files known file text option number name → ⊥)
    (λ number. (name : OptionName) × IsGap files known file text option number name)

-- the place of the name with a number, if an option has a gap
abbrev pub gap_of : FileOption → Option ℕ → List Span
gap_of option None = []
gap_of option (Some number) =
    option_map_or (λ (name : OptionName). span_of_name name.name ∷ []) (slice_get option.setting.names number) []

-- ---- uncertain names

-- what is told of the uncertain name of an option: its number and the file behind, or that there is none
abbrev pub TellsUncertain : List File → List OptionFacts → (file : ℕ) → (text : List ℕ) → FileOption
    → Option UncertainName → Type 0
TellsUncertain files known file text option uncertain = MatchOption uncertain
    ((number behind : ℕ) → IsInDoubt files known file text option number behind → ⊥)
    (IsUncertainName files known file text option)

-- its place
abbrev pub uncertain_of : FileOption → Option UncertainName → List UncertainPlace
uncertain_of option None = []
uncertain_of option (Some uncertain) =
    option_map_or (λ (name : OptionName). record { span = span_of_name name.name; behind = uncertain.behind } ∷ [])
    (slice_get option.setting.names uncertain.name_number) []

-- ---- what is asked for

abbrev pub OccursInOptionsIf : (asked : Option (List OptionFacts)) → List File → Chosen → Packages → Encoding
    → (source : ℕ) → (text : List ℕ) → Occurrence → Type 0
OccursInOptionsIf None files chosen ids encoding source text occurrence = ⊥
OccursInOptionsIf (Some known) files chosen ids encoding source text occurrence =
    OccursInOptions files known chosen ids encoding source text occurrence

module _ (files : List File) (known : List OptionFacts) (chosen : Chosen) where
  -- ---- occurrences

  module _ (ids : Packages) (encoding : Encoding) (source : ℕ) (text : List ℕ) where
    -- over a component of the name that has this target
    pub record OccursByTarget (option : FileOption) (target : OptionTarget) (occurrence : Occurrence) : Type 0 where
      pub is_target : IsOptionTarget files known source text option target
      pub span : Span
      pub part : Entity
      pub entity : symbols.Entity
      pub index : ℕ
      pub component_is : slice_get is_target.name.name.components index ≡ Some span
      pub part_is : slice_get target.parts index ≡ Some part
      pub entity_is : IsNamedAs files ids is_target.parts.declaration.full_name part entity
      pub shown : IsShown chosen part
      pub is : occurrence ≡ occurrence_over encoding text (package_of_part files ids part) span entity no_role

    pub record OccursByOption (option : FileOption) (occurrence : Occurrence) : Type 0 where
      pub target : OptionTarget
      pub by_target : OccursByTarget option target occurrence

  -- ---- external entries

  -- of a name in an option of a file that has this text
  pub record IsOfOption (file : ℕ) (text : List ℕ) (option : FileOption) (x : Pair) : Type 0 where
    pub target : OptionTarget
    pub is_target : IsOptionTarget files known file text option target
    pub of_parts : IsOfTarget files chosen target x

  pub record IsOfOptions (texts : List (List ℕ)) (file : ℕ) (x : Pair) : Type 0 where
    pub is_source : IsSource files file
    pub text : List ℕ
    pub text_is : slice_get texts file ≡ Some text
    pub beside : OptionFacts
    pub its : slice_get known file ≡ Some beside
    pub of_options : FromFront (IsOfOption file text) beside.options (length beside.options) x

  -- a name in an option of one of the first so many files names it
  pub record IsOptionExternal (texts : List (List ℕ)) (count : ℕ) (x : Pair) : Type 0 where
    pub file : ℕ
    pub within : file < count
    pub of_options : IsOfOptions texts file x
