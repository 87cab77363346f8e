-- What the names in options of a source name, where it is asked for: what occurs of it in the document, and which
-- external entries come of it. If nobody asks, each is what it is without options.
use Rattle.std.specs.Prelude.{◌≡◌, ◌↔◌, ◌⊎◌, ℕ, Option, Some, None, List, true, Contains}
use Rattle.std.specs.List.{slice_get}
use Rattle.proto_lex.specs.declared.span.Span.{Span}
use Rattle.proto_lex.specs.declared.position.Encoding.{Encoding}
use Rattle.proto_parse.specs.tree.TypeName.{TypeName}
use Rattle.proto_decl.specs.Imports.{end_of}
use Rattle.proto_decl.specs.Uses.{name_start}
use Rattle.proto_options.specs.declared.names.OptionName.{OptionName}
use Rattle.proto_options.specs.declared.options.FileOption.{FileOption}
use Rattle.option_link.specs.declared.facts.OptionFacts.{OptionFacts}
use Rattle.option_link.specs.declared.target.OptionTarget.{OptionTarget}
use Rattle.option_link.specs.OptionNames.{IsOptionTarget, IsGap}
use Rattle.option_link.specs.Uncertain.{IsUncertainName}
use Rattle.option_link.specs.declared.target.UncertainName.{UncertainName}
use Rattle.scip_model.specs.declared.option_told.UncertainPlace.{UncertainPlace}
use Rattle.proto_visibility.specs.Files.{File, IsSource}
use Rattle.proto_visibility.specs.Reaches.{LinksOptions}
use Rattle.proto_visibility.specs.declared.lookup.Entity.{Entity}
use Rattle.proto_visibility.specs.declared.lookup.Entity.TheVariants as link
use Rattle.scip_records.specs.declared.records.Occurrence.{Occurrence}
use Rattle.scip_records.specs.declared.records.SymbolInformation.{SymbolInformation}
use Rattle.scip_symbol.specs.Entities as symbols
use Rattle.scip_model.specs.Chosen.{Chosen}
use Rattle.scip_model.specs.Packages.{Packages, package_of_part}
use Rattle.scip_model.specs.Named.{IsNamedAs}
use Rattle.scip_model.specs.Occurs.{Occurs, IsShown, occurrence_over, no_role}
use Rattle.scip_model.specs.Entries.{HasExternal, IsKeptEntry}

-- where names in options are asked for, those of all sources are linked
abbrev pub AllLinkOptions : List File → Type 0
AllLinkOptions files = (source : ℕ) → IsSource files source → LinksOptions files source

-- A component of a name in an option of a file, which has this text, names an entity: of the linker's, and of those
-- that have symbols.
pub record NamesInOption (files : List File) (known : List OptionFacts) (ids : Packages) (file : ℕ) (text : List ℕ)
    (span : Span) (part : Entity) (entity : symbols.Entity) : Type 0 where
  pub beside : OptionFacts
  pub its : slice_get known file ≡ Some beside
  pub option : FileOption
  pub listed : Contains beside.options option
  pub target : OptionTarget
  pub is_target : IsOptionTarget files known file text option target
  pub index : ℕ
  pub component_is : slice_get is_target.name.name.components index ≡ Some span
  pub part_is : slice_get target.parts index ≡ Some part
  pub entity_is : IsNamedAs files ids is_target.parts.declaration.full_name part entity

-- ---- occurrences

-- Each component of a name in an option that names a package, or a declaration that is kept (`scip.proto`, SymbolRole:
-- none).
pub data OccursInOptions (files : List File) (known : List OptionFacts) (chosen : Chosen) (ids : Packages)
    (encoding : Encoding) (source : ℕ) (text : List ℕ) : Occurrence → Type 0 where
  of_option : {span : Span} {part : Entity} {entity : symbols.Entity}
      → NamesInOption files known ids source text span part entity → IsShown chosen part
      → OccursInOptions files known chosen ids encoding source text
      (occurrence_over encoding text (package_of_part files ids part) span entity no_role)

-- Over one range a symbol stands once: what else occurs there comes first.
pub record OccursApart (files : List File) (known : List OptionFacts) (chosen : Chosen) (ids : Packages)
    (encoding : Encoding) (source : ℕ) (text : List ℕ) (occurrence : Occurrence) : Type 0 where
  pub occurs : OccursInOptions files known chosen ids encoding source text occurrence
  pub apart : (other : Occurrence) → Occurs files chosen ids encoding source text other
      → other.range ≡ occurrence.range → other.symbol ≡ occurrence.symbol → ⊥

-- what occurs in the document of a source, with what its options name if it is asked for
abbrev pub OccursWith : (asked : Option (List OptionFacts)) → List File → Chosen → Packages → Encoding → (source : ℕ)
    → (text : List ℕ) → Occurrence → Type 0
OccursWith None files chosen ids encoding source text occurrence =
    Occurs files chosen ids encoding source text occurrence
OccursWith (Some known) files chosen ids encoding source text occurrence =
    Occurs files chosen ids encoding source text occurrence
    ⊎ OccursApart files known chosen ids encoding source text occurrence

-- ---- external entries

-- each declaration of an included file that is kept, and that a component of a name in an option of a source names
pub record HasExternalOfOption (files : List File) (known : List OptionFacts) (texts : List (List ℕ)) (chosen : Chosen)
    (ids : Packages) (entry : SymbolInformation) : Type 0 where
  pub source : ℕ
  pub is_source : IsSource files source
  pub text : List ℕ
  pub text_is : slice_get texts source ≡ Some text
  pub span : Span
  pub entity : symbols.Entity
  pub number : ℕ
  pub index : ℕ
  pub names : NamesInOption files known ids source text span (link.Declared number index) entity
  pub file : File
  pub numbered : slice_get files number ≡ Some file
  pub included : file.is_included ≡ true
  pub kept : IsKeptEntry files chosen ids number index entry

abbrev pub HasExternalWith : (asked : Option (List OptionFacts)) → List File → (texts : List (List ℕ)) → Chosen
    → Packages → SymbolInformation → Type 0
HasExternalWith None files texts chosen ids entry = HasExternal files chosen ids entry
HasExternalWith (Some known) files texts chosen ids entry =
    HasExternal files chosen ids entry ⊎ HasExternalOfOption files known texts chosen ids entry

-- ---- options without a target

-- from its leading dot, or else its first component, to the end of its last
abbrev pub span_of_name : TypeName → Span
span_of_name name = record { start = name_start name.leading_dot name.components; end = end_of name.components }

-- the place of the gap of an option of a file
pub record IsOptionGap (files : List File) (known : List OptionFacts) (file : ℕ) (text : List ℕ) (option : FileOption)
    (span : Span) : Type 0 where
  pub number : ℕ
  pub name : OptionName
  pub is_gap : IsGap files known file text option number name
  pub place : span ≡ span_of_name name.name

-- an option of a file has its gap at this place
pub record HasGapAt (files : List File) (known : List OptionFacts) (file : ℕ) (text : List ℕ) (span : Span) : Type 0
  where
    pub beside : OptionFacts
    pub its : slice_get known file ≡ Some beside
    pub option : FileOption
    pub listed : Contains beside.options option
    pub is_gap : IsOptionGap files known file text option span

-- the same, if names in options are linked; else none are looked for
abbrev pub HasGapIf : (asked : Option (List OptionFacts)) → List File → (file : ℕ) → (text : List ℕ) → Span → Type 0
HasGapIf None files file text span = ⊥
HasGapIf (Some known) files file text span = HasGapAt files known file text span

-- the places of the gaps of a file's options
abbrev pub AreOptionGapsIf : (asked : Option (List OptionFacts)) → List File → (file : ℕ) → (text : List ℕ)
    → List Span → Type 0
AreOptionGapsIf asked files file text spans = (span : Span) → Contains spans span ↔ HasGapIf asked files file text span

-- ---- options with an uncertain name

-- where the uncertain name of an option of a file stands, and behind which file
pub record IsUncertainIn (files : List File) (known : List OptionFacts) (file : ℕ) (text : List ℕ)
    (option : FileOption) (place : UncertainPlace) : Type 0 where
  pub uncertain : UncertainName
  pub name : OptionName
  pub is : IsUncertainName files known file text option uncertain
  pub numbered : slice_get option.setting.names uncertain.name_number ≡ Some name
  pub place_is : place ≡ record { span = span_of_name name.name; behind = uncertain.behind }

-- an option of a file has it there
pub record HasUncertainAt (files : List File) (known : List OptionFacts) (file : ℕ) (text : List ℕ)
    (place : UncertainPlace) : Type 0 where
  pub beside : OptionFacts
  pub its : slice_get known file ≡ Some beside
  pub option : FileOption
  pub listed : Contains beside.options option
  pub is : IsUncertainIn files known file text option place

-- the same, if names in options are linked; else none are looked for
abbrev pub HasUncertainIf : (asked : Option (List OptionFacts)) → List File → (file : ℕ) → (text : List ℕ)
    → UncertainPlace → Type 0
HasUncertainIf None files file text place = ⊥
HasUncertainIf (Some known) files file text place = HasUncertainAt files known file text place

-- the places of the uncertain names of a file's options
abbrev pub AreUncertainNamesIf : (asked : Option (List OptionFacts)) → List File → (file : ℕ) → (text : List ℕ)
    → List UncertainPlace → Type 0
AreUncertainNamesIf asked files file text places =
    (place : UncertainPlace) → Contains places place ↔ HasUncertainIf asked files file text place
