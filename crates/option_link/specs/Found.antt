-- What is found step by step of an option's names, for the code.
use Rattle.std.specs.Prelude.{◌≡◌, ◌≢◌, ◌<◌, ◌≤◌, ◌↔◌, ◌⊎◌, ◌∷◌, [], ℕ, Bool, true, false, nat_le, Option, Some, None}
use Rattle.std.specs.Prelude.{◌+◌, ◌-◌, ◌++◌, List, length, map, codes, Contains, MatchOption}
use Rattle.std.specs.List.{slice_get}
use Rattle.std.specs.List.Sorted.{IsStrictlyIncreasing}
use Rattle.proto_decl.specs.Names.{qualified, dotted, components_of, prefix_of, IsAround}
use Rattle.proto_decl.specs.Facts.{Facts}
use Rattle.proto_lex.specs.declared.span.Span.{Span}
use Rattle.proto_decl.specs.declared.declaration.Declaration.{Declaration}
use Rattle.proto_decl.specs.declared.declaration.DeclarationKind.TheVariants.{Value as EnumValue}
use Rattle.proto_decl.specs.declared.declaration.DeclarationStep.{DeclarationStep}
use Rattle.proto_options.specs.declared.fields.FieldFact.{FieldFact}
use Rattle.proto_options.specs.declared.fields.FieldKind.TheVariants as kinds
use Rattle.proto_options.specs.declared.messages.MessageClause.TheVariants as clauses
use Rattle.proto_options.specs.declared.names.OptionName.{OptionName}
use Rattle.proto_options.specs.declared.names.OptionRole.{OptionRole}
use Rattle.proto_options.specs.declared.names.OptionRole.TheVariants as role
use Rattle.proto_options.specs.declared.options.FileOption.{FileOption}
use Rattle.proto_visibility.specs.Files.{File, HasFacts}
use Rattle.proto_visibility.specs.Knows.{IsEntityOf, KnowsAs, is_message}
use Rattle.proto_visibility.specs.declared.lookup.Entity.{Entity}
use Rattle.option_link.specs.declared.contexts.Context.{Context}
use Rattle.option_link.specs.declared.contexts.Context.TheVariants as inside
use Rattle.option_link.specs.declared.facts.OptionFacts.{OptionFacts}
use Rattle.option_link.specs.declared.linker.Found.{Found}
use Rattle.option_link.specs.declared.place.DeclaredPlace.{DeclaredPlace}
use Rattle.option_link.specs.declared.target.OptionTarget.{OptionTarget}
use Rattle.option_link.specs.Places.{Stands}
use Rattle.option_link.specs.Fields.{IsField, IsFieldOf, IsFirstItem, IsOwnField, IsOwnGroup, FieldGives, ValueGives}
use Rattle.option_link.specs.Fields.{behind}
use Rattle.option_link.specs.Said.{Says}
use Rattle.option_link.specs.Typed.{IsMessageAt}
use Rattle.option_link.specs.Lookups.{LooksFor, is_field}
use Rattle.option_link.specs.Contexts.{HasFieldsOf, HasWords, IsReserved, IsTaken, LacksMessage, Leads, LookedUpFrom}
use Rattle.option_link.specs.Contexts.{MayBeExtended, NamesAs, StandsIn, behind_spelled, options_message}
use Rattle.option_link.specs.OptionNames.{IsOptionTarget, IsGap, LacksTarget, NamesParts}
use Rattle.option_link.specs.Tables.{IsClear, IsOnly, IsOwned}
use Rattle.option_link.specs.Uncertain.{IsInDoubt, IsUncertainName}

-- ---- plain names

-- the whole name of the option is this plain word
pub record IsOneWord (text word : List ℕ) (option : FileOption) : Type 0 where
  pub one_part : option.setting.parts ≡ 1
  pub name : OptionName
  pub first : slice_get option.setting.names 0 ≡ Some name
  pub plain : name.role ≡ role.Field
  pub is : HasWords text name (word ∷ [])

-- whether a name is in the braces of the option's value
abbrev pub in_braces : FileOption → (number : ℕ) → Bool
in_braces option number = nat_le option.setting.parts number

-- the field that is declared here, or whose group's message is
pub data IsMemberHere (files : List File) (known : List OptionFacts) (place : DeclaredPlace) (braces : Bool)
    : DeclaredPlace → Type 0 where
  plain : {fact : FieldFact} → IsField files known place fact → fact.extended ≡ None
      → (braces ≡ true → fact.kind ≢ kinds.Group) → IsMemberHere files known place braces place
  group : {field : DeclaredPlace} {fact : FieldFact} → braces ≡ true → behind field ≡ place → IsMessageAt files place
      → IsField files known field fact → fact.extended ≡ None → fact.kind ≡ kinds.Group
      → IsMemberHere files known place braces field

-- the same by the full name that nothing else of the file has
pub record IsMemberNamed (files : List File) (known : List OptionFacts) (file : ℕ) (name : List ℕ) (braces : Bool)
    (field : DeclaredPlace) : Type 0 where
  pub place : DeclaredPlace
  pub only : IsOnly files file name place
  pub here : IsMemberHere files known place braces field

-- the field of a message by a word, in braces or not
pub data IsMemberOf (files : List File) (known : List OptionFacts) (message : DeclaredPlace) (word : List ℕ)
    (braces : Bool) (field : DeclaredPlace) : Type 0 where
  plain : {fact : FieldFact} → IsOwnField files known message word field fact
      → (braces ≡ true → fact.kind ≢ kinds.Group)
      → IsMemberOf files known message word braces field
  group : braces ≡ true → IsOwnGroup files known message word field
      → IsMemberOf files known message word braces field

-- the field by a word of what it is looked up in
pub record IsFieldIn (files : List File) (known : List OptionFacts) (file : ℕ) (option : FileOption) (number : ℕ)
    (word : List ℕ) (context : Context) (field : DeclaredPlace) : Type 0 where
  pub message : DeclaredPlace
  pub has : HasFieldsOf files file option context message
  pub is : IsMemberOf files known message word (in_braces option number) field

-- ---- names in parentheses or in brackets

-- the scope of a name: that of the option, or in braces the one around the full name of what is extended
abbrev pub IsScope : FileOption → (number : ℕ) → (extended scope : List ℕ) → Type 0
IsScope option number extended scope = ((number < option.setting.parts) × (scope ≡ option.scope))
    ⊎ ((option.setting.parts ≤ number) × IsAround extended scope)

-- the full name of the messages that may be extended
abbrev pub IsExtendedName : List File → FileOption → Context → (extended : List ℕ) → Type 0
IsExtendedName files option context extended = (message : DeclaredPlace) (declaration : Declaration)
    → MayBeExtended files option context message → Stands files message declaration
    → declaration.full_name ≡ extended

-- the field with a full name that extends one of them
pub record IsExtensionNamed (files : List File) (known : List OptionFacts) (file : ℕ) (option : FileOption)
    (context : Context) (full_name : List ℕ) (field : DeclaredPlace) : Type 0 where
  pub owned : IsOwned files file is_field full_name field
  pub message : DeclaredPlace
  pub may : MayBeExtended files option context message
  pub is : IsFieldOf files known message field

-- the only full name that a name may have by its words, if there is a message that may be extended
pub record IsSoughtName (files : List File) (file : ℕ) (option : FileOption) (number : ℕ) (context : Context)
    (has_dot : Bool) (words : List (List ℕ)) (full_name : List ℕ) : Type 0 where
  pub from : List ℕ
  pub looked : (message : DeclaredPlace) → MayBeExtended files option context message
      → LookedUpFrom files option number message from
  pub found : LooksFor files file has_dot words from full_name

-- there is none
abbrev pub LacksSoughtName : List File → (file : ℕ) → FileOption → (number : ℕ) → Context → (has_dot : Bool)
    → (words : List (List ℕ)) → Type 0
LacksSoughtName files file option number context has_dot words = (message : DeclaredPlace) (from name : List ℕ)
    → MayBeExtended files option context message → LookedUpFrom files option number message from
    → LooksFor files file has_dot words from name → ⊥

-- the message set in which names in braces are looked up
pub record IsSetIn (files : List File) (known : List OptionFacts) (option : FileOption) (number : ℕ)
    (context : Context) (set : DeclaredPlace) : Type 0 where
  pub is : context ≡ inside.Message set
  pub braces : option.setting.parts ≤ number
  pub says : Says files known set clauses.IsMessageSet

-- the extension of a set that the message with a full name declares for itself
pub record IsItemNamed (files : List File) (known : List OptionFacts) (file : ℕ) (set : DeclaredPlace)
    (full_name : List ℕ) (field : DeclaredPlace) : Type 0 where
  pub type : DeclaredPlace
  pub owned : IsOwned files file is_message full_name type
  pub is : IsFirstItem files known set type field

-- what the only full name names that a name in parentheses or in brackets may have
pub data IsNamedBy (files : List File) (known : List OptionFacts) (file : ℕ) (option : FileOption) (number : ℕ)
    (context : Context) (full_name : List ℕ) : DeclaredPlace → Type 0 where
  extension : {field : DeclaredPlace} → IsExtensionNamed files known file option context full_name field
      → IsNamedBy files known file option number context full_name field
  item : {set field : DeclaredPlace} → IsSetIn files known option number context set
      → (KnowsAs files file is_field full_name → ⊥) → IsItemNamed files known file set full_name field
      → IsNamedBy files known file option number context full_name field

-- so many components of the full name of what a name names come behind those that it spells
abbrev pub IsBehind : List File → List OptionFacts → (file : ℕ) → (text : List ℕ) → FileOption → (number : ℕ)
    → OptionName → OptionRole → Context → (behind : ℕ) → Type 0
IsBehind files known file text option number name acting context behind = (at : DeclaredPlace)
    (names : NamesAs files known file text option number name acting context at) → behind_spelled names ≡ behind

-- ---- other names

-- the message that is packed
pub record IsPackedIn (files : List File) (file : ℕ) (any : DeclaredPlace) (words : List (List ℕ))
    (message : DeclaredPlace) : Type 0 where
  pub outer : Declaration
  pub stands : Stands files any outer
  pub called : outer.full_name ≡ codes "google.protobuf.Any"
  pub owned : IsOwned files file is_message (dotted words) message

-- a value of the enum with this declaration
pub record IsValueIn (files : List File) (outer : Declaration) (value : DeclaredPlace) : Type 0 where
  pub inner : Declaration
  pub stands : Stands files value inner
  pub is : inner.kind ≡ EnumValue
  pub step : DeclarationStep
  pub path : inner.path ≡ outer.path ++ step ∷ []

-- the one with this simple name
pub record IsValueNamed (files : List File) (file : ℕ) (outer : Declaration) (scope word : List ℕ)
    (value : DeclaredPlace) : Type 0 where
  pub only : IsOnly files file (qualified scope word) value
  pub is : IsValueIn files outer value

pub record IsValueOf (files : List File) (type : DeclaredPlace) (word : List ℕ) (value : DeclaredPlace)
    : Type 0 where
  pub outer : Declaration
  pub of_enum : Stands files type outer
  pub scope : List ℕ
  pub around : IsAround outer.full_name scope
  pub named : IsValueNamed files type.file outer scope word value

-- ---- what names give that name nothing, and which need name nothing

-- where a file declares what is named at a place
pub record IsDeclaredAt (files : List File) (file : ℕ) (name : Span) (at : DeclaredPlace) : Type 0 where
  pub in_file : at.file ≡ file
  pub declaration : Declaration
  pub stands : Stands files at declaration
  pub named : declaration.name ≡ name

-- what the field there gives
pub record IsDefaultGiven (files : List File) (known : List OptionFacts) (file : ℕ) (name : Span)
    (inner : Context) : Type 0 where
  pub field : DeclaredPlace
  pub in_file : field.file ≡ file
  pub fact : FieldFact
  pub is : IsField files known field fact
  pub at : fact.name ≡ name
  pub gives : FieldGives files known field inner

pub record IsWithoutMessage (files : List File) (file : ℕ) (option : FileOption) (name : OptionName) : Type 0 where
  pub plain : name.role ≡ role.Field
  pub lacks : LacksMessage files file (options_message option.element)

pub record IsEntryName (text : List ℕ) (name : OptionName) : Type 0 where
  pub plain : name.role ≡ role.Field
  pub word : List ℕ
  pub is : HasWords text name (word ∷ [])
  pub which : (word ≡ codes "key") ⊎ (word ≡ codes "value")

pub data LeadsUnnamed (files : List File) (known : List OptionFacts) (file : ℕ) (text : List ℕ) (option : FileOption)
    (number : ℕ) (name : OptionName) : (outer inner : Context) → Type 0 where
  key : {holder : DeclaredPlace} → name.role ≡ role.Field → HasWords text name (codes "key" ∷ [])
      → LeadsUnnamed files known file text option number name (inside.Entries holder) inside.Scalar
  map_value : {holder : DeclaredPlace} {inner : Context}
      → name.role ≡ role.Field → HasWords text name (codes "value" ∷ []) → ValueGives files known holder inner
      → LeadsUnnamed files known file text option number name (inside.Entries holder) inner
  default : {place : Span} {inner : Context}
      → IsTaken text (codes "default") option place → name.role ≢ role.Extension
      → IsDefaultGiven files known file place inner
      → LeadsUnnamed files known file text option number name inside.Untold inner
  untold : ((place : Span) → IsTaken text (codes "default") option place → ⊥) → name.role ≢ role.Extension
      → LeadsUnnamed files known file text option number name inside.Untold inside.Untold
  without_message : IsWithoutMessage files file option name
      → LeadsUnnamed files known file text option number name inside.Options inside.Untold
  reserved : {message : DeclaredPlace} → IsReserved files known text option number name message
      → LeadsUnnamed files known file text option number name (inside.Message message) inside.Skipped
  skipped : LeadsUnnamed files known file text option number name inside.Skipped inside.Skipped

pub data NeedsNoneIn (files : List File) (known : List OptionFacts) (file : ℕ) (text : List ℕ) (option : FileOption)
    (number : ℕ) (name : OptionName)
    : Context → Type 0 where
  word : name.role ≡ role.Value → NeedsNoneIn files known file text option number name inside.Scalar
  entry : {holder : DeclaredPlace} → IsEntryName text name
      → NeedsNoneIn files known file text option number name (inside.Entries holder)
  untold : name.role ≢ role.Extension → NeedsNoneIn files known file text option number name inside.Untold
  without_message : IsWithoutMessage files file option name → NeedsNoneIn files known file text option number name
      inside.Options
  reserved : {message : DeclaredPlace} → IsReserved files known text option number name message
      → NeedsNoneIn files known file text option number name (inside.Message message)
  skipped : NeedsNoneIn files known file text option number name inside.Skipped

-- ---- all names of an option

-- what each component of a name names that names this, or nothing
abbrev pub ArePartsOf : List File → OptionName → (behind : ℕ) → Option DeclaredPlace → Option (List Entity) → Type 0
ArePartsOf files name behind None parts = parts ≡ None
ArePartsOf files name behind (Some place) None = ⊥
ArePartsOf files name behind (Some place) (Some parts) = NamesParts files name place behind parts

-- what is added to the targets where a name has parts, or none
abbrev pub AddsParts : (number : ℕ) → Option (List Entity) → (old new : List OptionTarget) → Type 0
AddsParts number None old new = new ≡ old
AddsParts number (Some parts) old new = new ≡ old ++ record { name_number = number; parts = parts } ∷ []

-- what each of its components but the last names, where the last one names what is declared here
pub record NamesOuterParts (files : List File) (name : OptionName) (at : DeclaredPlace) (behind : ℕ)
    (parts : List Entity) : Type 0 where
  pub declaration : Declaration
  pub stands : Stands files at declaration
  pub skipped : ℕ
  pub split : skipped + length name.name.components + behind ≡ length (components_of declaration.full_name)
  pub one_each : length parts + 1 ≡ length name.name.components
  pub named : (j : ℕ) (part : Entity) → slice_get parts j ≡ Some part
      → IsEntityOf at.file stands.facts (prefix_of declaration.full_name (skipped + j + 1)) (skipped + j + 1) part

-- what each of the last so many components of a full name names, but for the very last one
pub record AreOuterEntities (file : ℕ) (facts : Facts) (name : List ℕ) (count : ℕ) (parts : List Entity)
    : Type 0 where
  pub one_each : length parts + 1 ≡ count
  pub named : (j : ℕ) (part : Entity) → slice_get parts j ≡ Some part
      → IsEntityOf file facts (prefix_of name (length (components_of name) - count + j + 1))
      (length (components_of name) - count + j + 1) part

-- the same of the facts of a file
pub record AreOuterEntitiesAt (files : List File) (file : ℕ) (name : List ℕ) (count : ℕ) (parts : List Entity)
    : Type 0 where
  pub facts : Facts
  pub known : HasFacts files file facts
  pub are : AreOuterEntities file facts name count parts

-- its components are those of the full name of what stands there in front of the last so many
pub record HasParts (files : List File) (name : OptionName) (behind : ℕ) (place : DeclaredPlace) : Type 0 where
  pub some : 0 < length name.name.components
  pub declaration : Declaration
  pub stands : Stands files place declaration
  pub few : length name.name.components + behind ≤ length (components_of declaration.full_name)

-- the gap so far, or else this name, if it is one
abbrev pub first_gap : Option ℕ → (number : ℕ) → (is : Bool) → Option ℕ
first_gap (Some gap) number is = Some gap
first_gap None number true = Some number
first_gap None number false = None

-- in what the names are looked up that belong to the name with this number
pub record LeadsFrom (files : List File) (known : List OptionFacts) (file : ℕ) (text : List ℕ) (option : FileOption)
    (number : ℕ) (inner : Context) : Type 0 where
  pub name : OptionName
  pub numbered : slice_get option.setting.names number ≡ Some name
  pub outer : Context
  pub stands : StandsIn files known file text option number outer
  pub leads : Leads files known file text option number name outer inner

-- for each of the first names
abbrev pub AreGiven : List File → List OptionFacts → (file : ℕ) → (text : List ℕ) → FileOption → List (Option Context)
    → Type 0
AreGiven files known file text option given = (k : ℕ) (its : Option Context) → slice_get given k ≡ Some its
    → MatchOption its ((inner : Context) → LeadsFrom files known file text option k inner → ⊥)
    (λ inner. LeadsFrom files known file text option k inner × IsClear files inner)

-- what the first so many names name, and lead to, and the gap and the uncertain name among them
pub record AreFound (files : List File) (known : List OptionFacts) (file : ℕ) (text : List ℕ) (option : FileOption)
    (count : ℕ) (found : Found) : Type 0 where
  pub targets : (target : OptionTarget) → Contains found.targets.items target
      ↔ (IsOptionTarget files known file text option target × (target.name_number < count))
  pub rising : IsStrictlyIncreasing (map (λ target. target.name_number) found.targets.items)
  pub each : length found.given.items ≡ count
  pub given : AreGiven files known file text option found.given.items
  pub gap : MatchOption found.gap
      ((number : ℕ) (name : OptionName) → number < count → LacksTarget files known file text option number name → ⊥)
      (λ number. (name : OptionName) × IsGap files known file text option number name)
  pub uncertain : MatchOption found.uncertain
      ((number behind : ℕ) → number < count → IsInDoubt files known file text option number behind → ⊥)
      (IsUncertainName files known file text option)
