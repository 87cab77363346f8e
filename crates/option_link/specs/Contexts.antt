-- In what a name in an option is looked up, and what it names there (proto3 and proto2 specifications, "Option"; protoc
-- 3.21, `OptionInterpreter`; Text Format Language Specification, "Field names").
use Rattle.std.specs.Prelude.{◌≡◌, ◌≢◌, ◌≤◌, ◌<◌, ℕ, Some, None, List, [], ◌∷◌, ◌++◌, map, codes, All}
use Rattle.std.specs.Option.{is_some}
use Rattle.std.specs.List.{slice_get}
use Rattle.proto_lex.specs.declared.span.Span.{Span}
use Rattle.proto_lex.specs.Lexed.{IsPart, part_of}
use Rattle.proto_decl.specs.Names.{qualified, dotted, IsAround}
use Rattle.proto_decl.specs.declared.declaration.Declaration.{Declaration}
use Rattle.proto_decl.specs.declared.declaration.DeclarationKind.TheVariants.{Message, Enum, Value as EnumValue, Field}
use Rattle.proto_decl.specs.declared.declaration.DeclarationStep.{DeclarationStep}
use Rattle.proto_options.specs.declared.elements.Element.{Element}
use Rattle.proto_options.specs.declared.elements.Element.TheVariants as of_a
use Rattle.proto_options.specs.declared.fields.FieldFact.{FieldFact}
use Rattle.proto_options.specs.declared.fields.FieldKind.TheVariants as kinds
use Rattle.proto_options.specs.declared.messages.MessageClause.TheVariants as clauses
use Rattle.proto_options.specs.declared.names.OptionName.{OptionName}
use Rattle.proto_options.specs.declared.names.OptionRole.{OptionRole}
use Rattle.proto_options.specs.declared.names.OptionRole.TheVariants as role
use Rattle.proto_options.specs.declared.options.FileOption.{FileOption}
use Rattle.proto_visibility.specs.Files.{File, IsPresent}
use Rattle.proto_visibility.specs.Knows.{IsOwner, KnowsAs, is_message}
use Rattle.proto_visibility.specs.Reaches.{HasOptionsIn}
use Rattle.option_link.specs.declared.contexts.Context.{Context}
use Rattle.option_link.specs.declared.contexts.Context.TheVariants as inside
use Rattle.option_link.specs.declared.facts.OptionFacts.{OptionFacts}
use Rattle.option_link.specs.declared.place.DeclaredPlace.{DeclaredPlace}
use Rattle.option_link.specs.Places.{StandsAs}
use Rattle.option_link.specs.Fields.{IsField, IsFirstItem, IsOwnField, IsOwnGroup, IsFieldOf, FieldGives, ValueGives}
use Rattle.option_link.specs.Lookups.{LooksFor, LooksUp, is_field}
use Rattle.option_link.specs.Said.{Reserves, Says}

-- The message of the options of an element (descriptor.proto).
abbrev pub options_message : Element → List ℕ
options_message of_a.File = codes "google.protobuf.FileOptions"
options_message of_a.Message = codes "google.protobuf.MessageOptions"
options_message (of_a.Field name) = codes "google.protobuf.FieldOptions"
options_message of_a.Oneof = codes "google.protobuf.OneofOptions"
options_message of_a.Enum = codes "google.protobuf.EnumOptions"
options_message of_a.EnumValue = codes "google.protobuf.EnumValueOptions"
options_message of_a.Service = codes "google.protobuf.ServiceOptions"
options_message of_a.Method = codes "google.protobuf.MethodOptions"
options_message of_a.ExtensionRange = codes "google.protobuf.ExtensionRangeOptions"

-- The words of a name, each a part of the text of its file.
pub record HasWords (text : List ℕ) (name : OptionName) (words : List (List ℕ)) : Type 0 where
  pub parts : All (IsPart text) name.name.components
  pub are : map (part_of text) name.name.components ≡ words

-- ---- the options of an element

-- A message with this full name, in any file.
pub record IsMessageNamed (files : List File) (name : List ℕ) (message : DeclaredPlace) : Type 0 where
  pub declaration : Declaration
  pub stands : StandsAs files Message message declaration
  pub named : declaration.full_name ≡ name

-- The file that a source has the messages of its options in: the only one, and it isn't left out.
pub record IsOptionsFile (files : List File) (source file : ℕ) : Type 0 where
  pub has : HasOptionsIn files source file
  pub only : (other : ℕ) → HasOptionsIn files source other → other ≡ file
  pub present : IsPresent files file

-- The message with this full name that plain names in a source's options are looked up in.
pub record IsOptionsMessage (files : List File) (source : ℕ) (name : List ℕ) (message : DeclaredPlace) : Type 0 where
  pub named : IsMessageNamed files name message
  pub of_source : IsOptionsFile files source message.file

-- There is none to look them up in: the source has the messages of its options in no file, or in one without this one.
pub data LacksMessage (files : List File) (source : ℕ) (name : List ℕ) : Type 0 where
  nowhere : ((file : ℕ) → HasOptionsIn files source file → ⊥) → LacksMessage files source name
  not_there : {file : ℕ} → IsOptionsFile files source file
      → ((message : DeclaredPlace) → IsMessageNamed files name message → message.file ≡ file → ⊥)
      → LacksMessage files source name

-- An option that protoc's parser takes for itself: `default` or `json_name` as the whole name of an option of a field.
pub record IsTaken (text word : List ℕ) (option : FileOption) (field : Span) : Type 0 where
  pub of_field : option.element ≡ of_a.Field field
  pub one_part : option.setting.parts ≡ 1
  pub name : OptionName
  pub first : slice_get option.setting.names 0 ≡ Some name
  pub plain : name.role ≡ role.Field
  pub is : HasWords text name (word ∷ [])

pub data IsTakenOption (text : List ℕ) (option : FileOption) : Type 0 where
  default : {field : Span} → IsTaken text (codes "default") option field → IsTakenOption text option
  json_name : {field : Span} → IsTaken text (codes "json_name") option field → IsTakenOption text option

-- In what the first part of an option is looked up: in the options of its element. An option that is taken is told by
-- nobody.
pub data Root (text : List ℕ) (option : FileOption) : Context → Type 0 where
  taken : IsTakenOption text option → Root text option inside.Untold
  options : (IsTakenOption text option → ⊥) → Root text option inside.Options

-- ---- what a name names

-- The message whose fields plain names are in an option of this source.
pub data HasFieldsOf (files : List File) (source : ℕ) (option : FileOption) : Context → DeclaredPlace → Type 0 where
  options : {message : DeclaredPlace} → IsOptionsMessage files source (options_message option.element) message
      → HasFieldsOf files source option inside.Options message
  message : {message : DeclaredPlace} → HasFieldsOf files source option (inside.Message message) message

-- A message that names in parentheses or in brackets extend: of an element's options each that has their name, in a
-- file that isn't left out, since it is the extension that says which it extends.
pub data MayBeExtended (files : List File) (option : FileOption) : Context → DeclaredPlace → Type 0 where
  options : {message : DeclaredPlace} → IsMessageNamed files (options_message option.element) message
      → IsPresent files message.file → MayBeExtended files option inside.Options message
  message : {message : DeclaredPlace} → MayBeExtended files option (inside.Message message) message

-- A name in braces that the message reserves.
pub record IsReserved (files : List File) (known : List OptionFacts) (text : List ℕ) (option : FileOption) (number : ℕ)
    (name : OptionName) (message : DeclaredPlace) : Type 0 where
  pub plain : name.role ≡ role.Field
  pub braces : option.setting.parts ≤ number
  pub word : List ℕ
  pub is : HasWords text name (word ∷ [])
  pub reserves : Reserves files known message word

-- The scope from which a name is looked up: that of the option, or in braces the one around the message.
pub data LookedUpFrom (files : List File) (option : FileOption) (number : ℕ) (message : DeclaredPlace)
    : List ℕ → Type 0 where
  part : number < option.setting.parts → LookedUpFrom files option number message option.scope
  in_braces : {declaration : Declaration} {outer : List ℕ}
      → option.setting.parts ≤ number → StandsAs files Message message declaration
      → IsAround declaration.full_name outer
      → LookedUpFrom files option number message outer

-- What a name of this role names, by its number among the names of an option, and what it is looked up in. It is told
-- by the place where that is declared.
pub data NamesAs (files : List File) (known : List OptionFacts) (file : ℕ) (text : List ℕ) (option : FileOption)
    (number : ℕ) (name : OptionName) : OptionRole → Context → DeclaredPlace → Type 0 where
  -- a field of the message, by its simple name; in braces a group has another one
  field : {context : Context} {message field : DeclaredPlace} {word : List ℕ} {fact : FieldFact}
      → HasWords text name (word ∷ []) → HasFieldsOf files file option context message
      → IsOwnField files known message word field fact
      → (option.setting.parts ≤ number → fact.kind ≢ kinds.Group)
      → NamesAs files known file text option number name role.Field context field
  -- in braces, the field of a group by the name of its message
  group : {context : Context} {message field : DeclaredPlace} {word : List ℕ}
      → HasWords text name (word ∷ []) → HasFieldsOf files file option context message
      → option.setting.parts ≤ number → IsOwnGroup files known message word field
      → NamesAs files known file text option number name role.Field context field
  -- in parentheses or in brackets: a field of the message, by its full name
  extension : {context : Context} {message field : DeclaredPlace} {words : List (List ℕ)} {from full_name : List ℕ}
      {declaration : Declaration}
      → HasWords text name words → MayBeExtended files option context message
      → LookedUpFrom files option number message from
      → LooksUp files file (is_some name.name.leading_dot) words from full_name
      → IsOwner files file is_field full_name field.file → StandsAs files Field field declaration
      → declaration.full_name ≡ full_name → IsFieldOf files known message field
      → NamesAs files known file text option number name role.Extension context field
  -- in brackets in a message set: the extension that a message declares for itself, by the full name of the message;
  -- but a field of that name comes first
  item : {set type field : DeclaredPlace} {words : List (List ℕ)} {from full_name : List ℕ}
      {declaration : Declaration}
      → HasWords text name words → option.setting.parts ≤ number → Says files known set clauses.IsMessageSet
      → LookedUpFrom files option number set from
      → LooksFor files file (is_some name.name.leading_dot) words from full_name
      → (KnowsAs files file is_field full_name → ⊥)
      → IsOwner files file is_message full_name type.file → StandsAs files Message type declaration
      → declaration.full_name ≡ full_name → IsFirstItem files known set type field
      → NamesAs files known file text option number name role.Extension (inside.Message set) field
  -- what is packed in a google.protobuf.Any: a message by its full name
  packed : {any message : DeclaredPlace} {words : List (List ℕ)} {outer inner : Declaration}
      → HasWords text name words → StandsAs files Message any outer
      → outer.full_name ≡ codes "google.protobuf.Any"
      → IsOwner files file is_message (dotted words) message.file
      → StandsAs files Message message inner → inner.full_name ≡ dotted words
      → NamesAs files known file text option number name role.Message (inside.Message any) message
  -- a value of the enum, by its simple name: it is beside the enum, and belongs to it
  value : {type value : DeclaredPlace} {outer inner : Declaration} {scope word : List ℕ}
      → HasWords text name (word ∷ [])
      → StandsAs files Enum type outer → IsAround outer.full_name scope
      → StandsAs files EnumValue value inner → value.file ≡ type.file → inner.full_name ≡ qualified scope word
      → ((step : DeclarationStep) × (inner.path ≡ outer.path ++ step ∷ []))
      → NamesAs files known file text option number name role.Value (inside.Enum type) value

abbrev pub NamesIn : List File → List OptionFacts → (file : ℕ) → (text : List ℕ) → FileOption → (number : ℕ)
    → OptionName → Context → DeclaredPlace → Type 0
NamesIn files known file text option number name = NamesAs files known file text option number name name.role

-- How many components of the full name of what a name names come behind those that it spells: of an item of a message
-- set, which is named by its message, its own.
abbrev pub behind_spelled : {files : List File} {known : List OptionFacts} {file : ℕ} {text : List ℕ}
    {option : FileOption} {number : ℕ} {name : OptionName} {acting : OptionRole} {context : Context}
    {at : DeclaredPlace} → NamesAs files known file text option number name acting context at → ℕ
behind_spelled (NamesAs.field words has is no_group) = 0
behind_spelled (NamesAs.group words has braces is) = 0
behind_spelled (NamesAs.extension words may from looks owner stands full is) = 0
behind_spelled (NamesAs.item words braces says from looks unknown owner stands full is) = 1
behind_spelled (NamesAs.packed words any called owner stands full) = 0
behind_spelled (NamesAs.value words type around stands same full path) = 0

-- ---- in what the names are looked up that belong to a name

-- What that gives which a name of this role names: a field by its type, and a message itself.
pub data PlaceGives (files : List File) (known : List OptionFacts) : OptionRole → DeclaredPlace → Context → Type 0 where
  field : {field : DeclaredPlace} {context : Context}
      → FieldGives files known field context → PlaceGives files known role.Field field context
  extension : {field : DeclaredPlace} {context : Context}
      → FieldGives files known field context → PlaceGives files known role.Extension field context
  message : {message : DeclaredPlace} → PlaceGives files known role.Message message (inside.Message message)

pub data Leads (files : List File) (known : List OptionFacts) (file : ℕ) (text : List ℕ) (option : FileOption)
    (number : ℕ) (name : OptionName) : (outer inner : Context) → Type 0 where
  -- what that gives which the name names
  named : {outer inner : Context} {at : DeclaredPlace}
      → NamesIn files known file text option number name outer at → PlaceGives files known name.role at inner
      → Leads files known file text option number name outer inner
  -- the entries of a map
  key : {holder : DeclaredPlace} → name.role ≡ role.Field → HasWords text name (codes "key" ∷ [])
      → Leads files known file text option number name (inside.Entries holder) inside.Scalar
  map_value : {holder : DeclaredPlace} {inner : Context}
      → name.role ≡ role.Field → HasWords text name (codes "value" ∷ []) → ValueGives files known holder inner
      → Leads files known file text option number name (inside.Entries holder) inner
  -- the word that is given to `default` is a value of the field's own type
  default : {field : DeclaredPlace} {place : Span} {fact : FieldFact} {inner : Context}
      → IsTaken text (codes "default") option place → name.role ≢ role.Extension → field.file ≡ file
      → IsField files known field fact → fact.name ≡ place → FieldGives files known field inner
      → Leads files known file text option number name inside.Untold inner
  -- what is in options that nobody tells of is told by nobody
  untold : ((place : Span) → IsTaken text (codes "default") option place → ⊥) → name.role ≢ role.Extension
      → Leads files known file text option number name inside.Untold inside.Untold
  without_message : name.role ≡ role.Field
      → LacksMessage files file (options_message option.element)
      → Leads files known file text option number name inside.Options inside.Untold
  -- what is given to a name that the message reserves is read past, unless it is a field's all the same
  reserved : {message : DeclaredPlace} → IsReserved files known text option number name message
      → ((at : DeclaredPlace) → NamesIn files known file text option number name (inside.Message message) at → ⊥)
      → Leads files known file text option number name (inside.Message message) inside.Skipped
  skipped : Leads files known file text option number name inside.Skipped inside.Skipped

-- In what name number so and so of an option is looked up. Where a name names nothing, those that belong to it are
-- looked up in nothing.
pub data StandsIn (files : List File) (known : List OptionFacts) (file : ℕ) (text : List ℕ) (option : FileOption)
    : (number : ℕ) → Context → Type 0 where
  first : {number : ℕ} {name : OptionName} {context : Context}
      → slice_get option.setting.names number ≡ Some name → name.around ≡ None → Root text option context
      → StandsIn files known file text option number context
  further : {number before : ℕ} {name outer_name : OptionName} {outer context : Context}
      → slice_get option.setting.names number ≡ Some name → name.around ≡ Some before → before < number
      → slice_get option.setting.names before ≡ Some outer_name
      → StandsIn files known file text option before outer
      → Leads files known file text option before outer_name outer context
      → StandsIn files known file text option number context
