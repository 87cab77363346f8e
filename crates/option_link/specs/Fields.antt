-- What fields are of, and what is looked up in them, in files that are linked (proto3 specification, "Fields", "Map
-- field"; proto2 specification, "Group field" and "Extend").
use Rattle.std.specs.Prelude.{◌≡◌, ◌≤◌, ℕ, ◌+◌, Option, Some, None, List, map, Contains}
use Rattle.std.specs.List.{slice_get}
use Rattle.std.specs.List.Sorted.{IsStrictlyIncreasing}
use Rattle.proto_decl.specs.Names.{qualified, HasNoDot}
use Rattle.proto_decl.specs.Imports.{start_of}
use Rattle.proto_decl.specs.Facts.{Facts, component_spans}
use Rattle.proto_decl.specs.declared.declaration.Declaration.{Declaration}
use Rattle.proto_decl.specs.declared.declaration.DeclarationKind.{DeclarationKind}
use Rattle.proto_decl.specs.declared.declaration.DeclarationKind.TheVariants.{Message, Enum, Field}
use Rattle.proto_decl.specs.declared.uses.Use.{Use}
use Rattle.proto_options.specs.declared.fields.FieldFact.{FieldFact}
use Rattle.proto_options.specs.declared.fields.FieldKind.{FieldKind}
use Rattle.proto_options.specs.declared.fields.FieldKind.TheVariants as kinds
use Rattle.proto_visibility.specs.Files.{File, HasFacts}
use Rattle.proto_link.specs.Targets.{Names}
use Rattle.option_link.specs.declared.contexts.Context.{Context}
use Rattle.option_link.specs.declared.contexts.Context.TheVariants as inside
use Rattle.option_link.specs.declared.facts.OptionFacts.{OptionFacts}
use Rattle.option_link.specs.declared.place.DeclaredPlace.{DeclaredPlace}
use Rattle.option_link.specs.Places.{Stands, StandsAs, place_at}

-- The fields of each file stand in order of place, as `fields_of` gives them: so there is one of a declaration.
abbrev pub AreInOrder : List OptionFacts → Type 0
AreInOrder known = (beside : OptionFacts) → Contains known beside
    → IsStrictlyIncreasing (map (λ fact. fact.name.start) beside.fields)

-- A field, with what it is of, and its type.
pub record IsField (files : List File) (known : List OptionFacts) (at : DeclaredPlace) (fact : FieldFact) : Type 0 where
  pub declaration : Declaration
  pub stands : Stands files at declaration
  pub is : declaration.kind ≡ Field
  pub beside : OptionFacts
  pub of_file : slice_get known at.file ≡ Some beside
  pub listed : Contains beside.fields fact
  pub same : fact.name ≡ declaration.name

-- What the use of a file names whose first component starts here: a message or an enum, by the files that its file
-- sees.
pub record TypeAt (files : List File) (file start : ℕ) (kind : DeclarationKind) (type : DeclaredPlace) : Type 0 where
  pub facts : Facts
  pub known : HasFacts files file facts
  pub type_use : Use
  pub listed : Contains facts.uses type_use
  pub starts : start_of (component_spans type_use.components) ≡ start
  pub name : List ℕ
  pub names : Names files file type_use name type.file
  pub declaration : Declaration
  pub stands : StandsAs files kind type declaration
  pub named : declaration.full_name ≡ name

-- The member of a message with this simple name: a field, or the message of a group.
pub record IsMember (files : List File) (message : DeclaredPlace) (kind : DeclarationKind) (name : List ℕ)
    (member : DeclaredPlace) : Type 0 where
  pub outer : Declaration
  pub of_message : StandsAs files Message message outer
  pub inner : Declaration
  pub stands : StandsAs files kind member inner
  pub same_file : member.file ≡ message.file
  pub named : inner.full_name ≡ qualified outer.full_name name

-- A field that is declared in a message is of that message, unless an extend is around it there.
pub record IsOwnField (files : List File) (known : List OptionFacts) (message : DeclaredPlace) (name : List ℕ)
    (field : DeclaredPlace) (fact : FieldFact) : Type 0 where
  pub member : IsMember files message Field name field
  pub is : IsField files known field fact
  pub own : fact.extended ≡ None

-- A group in a message, by the simple name of its message, which stands behind its field.
abbrev pub behind : DeclaredPlace → DeclaredPlace
behind field = place_at field.file (field.index + 1)

pub record IsOwnGroup (files : List File) (known : List OptionFacts) (message : DeclaredPlace) (name : List ℕ)
    (field : DeclaredPlace) : Type 0 where
  pub member : IsMember files message Message name (behind field)
  pub fact : FieldFact
  pub is : IsField files known field fact
  pub own : fact.extended ≡ None
  pub group : fact.kind ≡ kinds.Group

-- A field that an extend declares is of the message that the extend names.
pub record Extends (files : List File) (known : List OptionFacts) (message field : DeclaredPlace) : Type 0 where
  pub fact : FieldFact
  pub is : IsField files known field fact
  pub start : ℕ
  pub extended : fact.extended ≡ Some start
  pub named : TypeAt files field.file start Message message

-- A field of the message: its own, or one that extends it.
pub data IsFieldOf (files : List File) (known : List OptionFacts) (message field : DeclaredPlace) : Type 0 where
  own : {name : List ℕ} {fact : FieldFact}
      → HasNoDot name → IsOwnField files known message name field fact → IsFieldOf files known message field
  extending : Extends files known message field → IsFieldOf files known message field

-- ---- in what names are looked up

-- What a type gives that a use names.
pub data TypeGives (files : List File) (file start : ℕ) : Context → Type 0 where
  message : {type : DeclaredPlace} → TypeAt files file start Message type
      → TypeGives files file start (inside.Message type)
  enum : {type : DeclaredPlace} → TypeAt files file start Enum type → TypeGives files file start (inside.Enum type)

-- What a field gives, by its kind.
pub data KindGives (files : List File) (field : DeclaredPlace) : FieldKind → Context → Type 0 where
  scalar : KindGives files field kinds.Scalar inside.Scalar
  named : {start : ℕ} {context : Context}
      → TypeGives files field.file start context → KindGives files field (kinds.Named start) context
  group : {declaration : Declaration}
      → StandsAs files Message (behind field) declaration
      → KindGives files field kinds.Group (inside.Message (behind field))
  entries : {value : Option ℕ} → KindGives files field (kinds.Map value) (inside.Entries field)

pub record FieldGives (files : List File) (known : List OptionFacts) (field : DeclaredPlace)
    (context : Context) : Type 0 where
  pub fact : FieldFact
  pub is : IsField files known field fact
  pub gives : KindGives files field fact.kind context

-- What the values of a map give.
pub data MapGives (files : List File) (field : DeclaredPlace) : FieldKind → Context → Type 0 where
  scalar : MapGives files field (kinds.Map None) inside.Scalar
  named : {start : ℕ} {context : Context}
      → TypeGives files field.file start context → MapGives files field (kinds.Map (Some start)) context

pub record ValueGives (files : List File) (known : List OptionFacts) (field : DeclaredPlace)
    (context : Context) : Type 0 where
  pub fact : FieldFact
  pub is : IsField files known field fact
  pub gives : MapGives files field fact.kind context

-- ---- message sets

-- An extension of a message set that is declared directly in a message, and is of that message (protoc 3.21,
-- `AggregateOptionFinder`: "the text format allows MessageSet items to be specified using the type name").
pub record IsItem (files : List File) (known : List OptionFacts) (set type field : DeclaredPlace) : Type 0 where
  pub name : List ℕ
  pub plain : HasNoDot name
  pub member : IsMember files type Field name field
  pub extends : Extends files known set field
  pub of_type : FieldGives files known field (inside.Message type)

-- the first one
pub record IsFirstItem (files : List File) (known : List OptionFacts) (set type field : DeclaredPlace)
    : Type 0 where
  pub is : IsItem files known set type field
  pub first : (other : DeclaredPlace) → IsItem files known set type other → field.index ≤ other.index
