-- What fields are of, and their types (proto3 specification, "Fields", "Oneof and oneof field" and "Map field"; proto2
-- specification, "Group field" and "Extend"), in order of place. A type that has a name is told by where the first
-- component of the name starts: there is one use of the file whose first component starts there.
use Rattle.std.specs.Prelude.{ℕ, Option, Some, None, List, [], ◌∷◌}
use Rattle.proto_lex.specs.declared.span.Span.{Span}
use Rattle.proto_parse.specs.tree.FieldType.{FieldType}
use Rattle.proto_parse.specs.tree.FieldType.TheVariants.{Scalar, Named}
use Rattle.proto_parse.specs.tree.FileItem.{FileItem}
use Rattle.proto_parse.specs.tree.Head.TheVariants as head
use Rattle.proto_parse.specs.tree.File.{File}
use Rattle.proto_parse.specs.tree.TypeName.{TypeName}
use Rattle.proto_parse.specs.Parts.{Part, of_item, of_items}
use Rattle.proto_parse.specs.Parts.Part.{BlockPart, FieldPart, MapFieldPart}
use Rattle.proto_decl.specs.Imports.{start_of}
use Rattle.proto_options.specs.declared.fields.FieldFact.{FieldFact}
use Rattle.proto_options.specs.declared.fields.FieldKind.{FieldKind}
use Rattle.proto_options.specs.declared.fields.FieldKind.TheVariants as kinds

-- where the first component of a type's name starts
abbrev pub type_start : TypeName → ℕ
type_start type = start_of type.components

-- What the fields in a part extend: in an extend what it names, and else, where they are fields of the message around
-- them, nothing. A oneof's fields are of what is around it.
abbrev pub extended_in : Option ℕ → Part → Option ℕ
extended_in extended (BlockPart (head.Oneof heading)) = extended
extended_in extended (BlockPart (head.Extend type)) = Some (type_start type)
extended_in extended part = None

abbrev pub kind_of : FieldType → FieldKind
kind_of (Scalar word) = kinds.Scalar
kind_of (Named type) = kinds.Named (type_start type)

-- the type of a map's values, unless it is a scalar one
abbrev pub value_of : FieldType → Option ℕ
value_of (Scalar word) = None
value_of (Named type) = Some (type_start type)

abbrev pub fact_of : (name : Span) → (extended : Option ℕ) → FieldKind → FieldFact
fact_of name extended kind = record { name = name; extended = extended; kind = kind }

-- The field that a part declares. That of a group is at the word `group`.
abbrev pub fields_by : Option ℕ → Part → List FieldFact
fields_by extended (FieldPart field) = fact_of field.heading.name extended (kind_of field.field_type) ∷ []
fields_by extended (MapFieldPart field) =
    fact_of field.heading.name extended (kinds.Map (value_of field.value)) ∷ []
fields_by extended (BlockPart (head.Group group)) = fact_of group.word extended kinds.Group ∷ []
fields_by extended part = []

-- All fields of an item of a file, and of a file.
abbrev pub fields_in_item : FileItem → List FieldFact
fields_in_item item = of_item extended_in fields_by None item

abbrev pub fields_in : File → List FieldFact
fields_in file = of_items extended_in fields_by None file.items
