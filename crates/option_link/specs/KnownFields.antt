-- Fields that options use often, found once.
use Rattle.std.specs.Prelude.{◌≡◌, Bool, Option, Some, List, Contains, MatchOption}
use Rattle.proto_decl.specs.Declares.{simple_name}
use Rattle.proto_decl.specs.declared.declaration.Declaration.{Declaration}
use Rattle.proto_visibility.specs.Files.{File}
use Rattle.option_link.specs.declared.contexts.Context.{Context}
use Rattle.option_link.specs.declared.facts.OptionFacts.{OptionFacts}
use Rattle.option_link.specs.declared.known_fields.KnownField.{KnownField}
use Rattle.option_link.specs.declared.place.DeclaredPlace.{DeclaredPlace}
use Rattle.option_link.specs.Places.{Stands}
use Rattle.option_link.specs.Fields.{FieldGives}
use Rattle.option_link.specs.Found.{IsMemberOf}

-- by the simple name of what is declared there, in braces or not, it is the field of the message
abbrev pub IsNamedIn : List File → List OptionFacts → (message field : DeclaredPlace) → Type 0
IsNamedIn files known message field = (declaration : Declaration) → Stands files field declaration
    → (braces : Bool) → IsMemberOf files known message (simple_name declaration.path) braces field

-- what names are looked up in that belong to the field
abbrev pub IsGivenBy : List File → List OptionFacts → (field : DeclaredPlace) → Option Context → Type 0
IsGivenBy files known field gives = MatchOption gives
    ((context : Context) → FieldGives files known field context → ⊥) (FieldGives files known field)

pub record IsKnownField (files : List File) (known : List OptionFacts) (one : KnownField) : Type 0 where
  pub named : (message : DeclaredPlace) → one.message ≡ Some message → IsNamedIn files known message one.field
  pub gives : IsGivenBy files known one.field one.gives

abbrev pub AreKnownFields : List File → List OptionFacts → List KnownField → Type 0
AreKnownFields files known fields = (one : KnownField) → Contains fields one → IsKnownField files known one
