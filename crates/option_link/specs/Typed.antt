-- What is found step by step of fields and their types, for the code.
use Rattle.std.specs.Prelude.{⊤, ◌≡◌, ◌≢◌, ℕ, Bool, Option, Some, None, Result, Ok, Err, List, Contains}
use Rattle.std.specs.Prelude.{MatchOption, length}
use Rattle.std.specs.List.{slice_get}
use Rattle.proto_lex.specs.declared.span.Span.{Span}
use Rattle.proto_decl.specs.Names.{IsAround}
use Rattle.proto_decl.specs.declared.declaration.Declaration.{Declaration}
use Rattle.proto_decl.specs.declared.declaration.DeclarationKind.{DeclarationKind}
use Rattle.proto_decl.specs.declared.declaration.DeclarationKind.TheVariants.{Message, Enum}
use Rattle.proto_decl.specs.declared.uses.Use.{Use}
use Rattle.proto_options.specs.declared.fields.FieldFact.{FieldFact}
use Rattle.proto_visibility.specs.Files.{File, IsPresent}
use Rattle.proto_visibility.specs.declared.fault.LinkFault.{LinkFault}
use Rattle.proto_visibility.specs.declared.fault.LinkFault.TheVariants.{Memory}
use Rattle.proto_link.specs.Targets.{Names}
use Rattle.proto_link.specs.declared.target.Target.{Target}
use Rattle.option_link.specs.declared.contexts.Context.{Context}
use Rattle.option_link.specs.declared.contexts.Context.TheVariants as inside
use Rattle.option_link.specs.declared.facts.OptionFacts.{OptionFacts}
use Rattle.option_link.specs.declared.messages.OptionMessages.{OptionMessages}
use Rattle.option_link.specs.declared.place.DeclaredPlace.{DeclaredPlace}
use Rattle.option_link.specs.declared.table.Listed.{Listed}
use Rattle.option_link.specs.declared.types.FoundType.{FoundType}
use Rattle.option_link.specs.Places.{Stands, StandsAs}
use Rattle.option_link.specs.Fields.{TypeAt}
use Rattle.option_link.specs.Marks.{AreListedMarked}
use Rattle.option_link.specs.Packages.{HasPackages}
use Rattle.option_link.specs.Tables.{Lists, TellsOf}
use Rattle.option_link.specs.Messages.{AreOptionsMessages}

-- the field of a file whose name is at this place
pub record IsFactNamed (known : List OptionFacts) (file : ℕ) (name : Span) (fact : FieldFact) : Type 0 where
  pub beside : OptionFacts
  pub of_file : slice_get known file ≡ Some beside
  pub listed : Contains beside.fields fact
  pub same : fact.name ≡ name

-- what the linker answers about a use: what it names, or nothing, unless memory was refused
abbrev pub AnswersAlike : Result Target LinkFault → Option Target → Type 0
AnswersAlike (Ok target) found = found ≡ Some target
AnswersAlike (Err fault) found = (found ≡ None) × (fault ≢ Memory)

-- the type that a use of a file names
pub record IsTypeNamed (files : List File) (file : ℕ) (type_use : Use) (type : DeclaredPlace) : Type 0 where
  pub kind : DeclarationKind
  pub name : List ℕ
  pub names : Names files file type_use name type.file
  pub declaration : Declaration
  pub stands : StandsAs files kind type declaration
  pub named : declaration.full_name ≡ name

-- what is found of the type that the use of a file names which starts here
abbrev pub IsTypeFound : List File → (file start : ℕ) → Option DeclaredPlace → Type 0
IsTypeFound files file start found = MatchOption found
    ((kind : DeclarationKind) (type : DeclaredPlace) → TypeAt files file start kind type → ⊥)
    (λ type. (kind : DeclarationKind) × TypeAt files file start kind type)

-- the same of each of these uses
abbrev pub AreTypesFound : List File → List FoundType → Type 0
AreTypesFound files types = (one : FoundType) → Contains types one → IsTypeFound files one.file one.start one.found

-- what the table of declarations has
pub record IsTable (files : List File) (listed : List Listed) (types : List FoundType)
    (present packages declared : List Bool) (messages : Option OptionMessages) : Type 0 where
  pub lists : Lists files listed
  pub found : AreTypesFound files types
  pub told : TellsOf (IsPresent files) (length files) present
  pub packaged : HasPackages files packages
  pub marked : AreListedMarked listed declared
  pub kept : MatchOption messages ⊤ (AreOptionsMessages files)

-- a message stands there
pub record IsMessageAt (files : List File) (place : DeclaredPlace) : Type 0 where
  pub declaration : Declaration
  pub stands : Stands files place declaration
  pub is : declaration.kind ≡ Message

-- what a message or an enum gives that stands there
pub data GivesAt (files : List File) (place : DeclaredPlace) : Context → Type 0 where
  message : {declaration : Declaration} → Stands files place declaration → declaration.kind ≡ Message
      → GivesAt files place (inside.Message place)
  enum : {declaration : Declaration} → Stands files place declaration → declaration.kind ≡ Enum
      → GivesAt files place (inside.Enum place)

-- the message of a file around a full name
pub record IsAroundIn (files : List File) (file : ℕ) (name : List ℕ) (message : DeclaredPlace) : Type 0 where
  pub in_file : message.file ≡ file
  pub scope : List ℕ
  pub around : IsAround name scope
  pub declaration : Declaration
  pub stands : StandsAs files Message message declaration
  pub named : declaration.full_name ≡ scope

-- the message of a field with a full name: the one around it, or the one that it extends
pub data HasMessage (files : List File) (field : DeclaredPlace) (name : List ℕ)
    : Option ℕ → DeclaredPlace → Type 0 where
  around : {message : DeclaredPlace} → IsAroundIn files field.file name message
      → HasMessage files field name None message
  extending : {start : ℕ} {message : DeclaredPlace} → TypeAt files field.file start Message message
      → HasMessage files field name (Some start) message
