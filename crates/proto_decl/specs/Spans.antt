-- What holds of the spans that a tree has.
use Rattle.std.specs.Prelude.{Option, Some, None, List, All}
use Rattle.std.specs.List.{AllByRecursion}
use Rattle.proto_lex.specs.declared.span.Span.{Span}
use Rattle.proto_parse.specs.tree.Heading.{Heading}
use Rattle.proto_parse.specs.tree.TypeName.{TypeName}
use Rattle.proto_parse.specs.tree.FieldType.{FieldType}
use Rattle.proto_parse.specs.tree.FieldType.TheVariants.{Scalar, Named}
use Rattle.proto_parse.specs.tree.Group.{Group}
use Rattle.proto_parse.specs.tree.Head.{Head}
use Rattle.proto_parse.specs.tree.Head.TheVariants as head
use Rattle.proto_parse.specs.tree.Method.{Method}
use Rattle.proto_parse.specs.Parts.{Part}
use Rattle.proto_parse.specs.Parts.Part.{BlockPart, EnumPart, ValuePart, FieldPart, MapFieldPart, ServicePart}
use Rattle.proto_parse.specs.Parts.Part.{MethodPart}

module _ (P : Span → Type 0) where
  abbrev pub OfHeading : Heading → Type 0
  OfHeading heading = P heading.first × P heading.name × P heading.closing

  abbrev pub OfSome : Option Span → Type 0
  OfSome None = Unit {0}
  OfSome (Some span) = P span

  abbrev pub OfTypeName : TypeName → Type 0
  OfTypeName name = OfSome name.leading_dot × All P name.components

  abbrev pub OfType : FieldType → Type 0
  OfType (Scalar word) = P word
  OfType (Named name) = OfTypeName name

  abbrev pub OfGroup : Group → Type 0
  OfGroup group = OfHeading group.heading × P group.word

  abbrev pub OfHead : Head → Type 0
  OfHead (head.Message heading) = OfHeading heading
  OfHead (head.Group group) = OfGroup group
  OfHead (head.Oneof heading) = OfHeading heading
  OfHead (head.Extend type) = OfTypeName type

  abbrev pub OfMethod : Method → Type 0
  OfMethod method = OfHeading method.heading × OfTypeName method.input × OfTypeName method.output

  abbrev pub OfPart : Part → Type 0
  OfPart (BlockPart head) = OfHead head
  OfPart (EnumPart heading) = OfHeading heading
  OfPart (ValuePart heading) = OfHeading heading
  OfPart (FieldPart field) = OfHeading field.heading × OfType field.field_type
  OfPart (MapFieldPart field) = OfHeading field.heading × OfType field.value
  OfPart (ServicePart heading) = OfHeading heading
  OfPart (MethodPart method) = OfMethod method

  abbrev pub OfParts : List Part → Type 0
  OfParts parts = AllByRecursion OfPart parts

  abbrev pub OfPackage : Option (List Span) → Type 0
  OfPackage None = Unit {0}
  OfPackage (Some components) = All P components
