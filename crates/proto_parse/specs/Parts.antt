-- The parts of a file, in the order of a walk: a declaration before what is in it. What is in a file is told part by
-- part, so its tree is gone through here alone.
use Rattle.std.specs.Prelude.{List, [], ◌∷◌, ◌++◌}
use Rattle.std.specs.List.{flat_map}
use Rattle.proto_grammar.specs.declared.tree.Heading.{Heading}
use Rattle.proto_grammar.specs.declared.tree.TypeName.{TypeName}
use Rattle.proto_grammar.specs.declared.tree.FieldType.{FieldType}
use Rattle.proto_grammar.specs.declared.tree.FieldType.TheVariants.{Scalar, Named}
use Rattle.proto_grammar.specs.declared.tree.Field.{Field}
use Rattle.proto_grammar.specs.declared.tree.MapField.{MapField}
use Rattle.proto_grammar.specs.declared.tree.Enum.{Enum}
use Rattle.proto_grammar.specs.declared.tree.Head.{Head}
use Rattle.proto_grammar.specs.declared.tree.Head.TheVariants as head
use Rattle.proto_grammar.specs.declared.tree.Leaf.{Leaf}
use Rattle.proto_grammar.specs.declared.tree.Leaf.TheVariants as leaf
use Rattle.proto_grammar.specs.declared.tree.Method.{Method}
use Rattle.proto_grammar.specs.declared.tree.Service.{Service}
use Rattle.proto_grammar.specs.declared.tree.FileItem.{FileItem}
use Rattle.proto_grammar.specs.declared.tree.FileItem.TheVariants as item
use Rattle.proto_grammar.specs.declared.tree.File.{File}
use Rattle.proto_grammar.specs.Tree.{Body, BlockTree}
use Rattle.proto_grammar.specs.Tree.Body.{NoMore, LeafThen, BlockThen}

-- A part has no part in it: of what has braces, it is what is before the `{`.
pub data Part : Type 0 where
  BlockPart : Head → Part
  EnumPart : Heading → Part
  ValuePart : Heading → Part
  FieldPart : Field → Part
  MapFieldPart : MapField → Part
  ServicePart : Heading → Part
  MethodPart : Method → Part

-- What is found in parts, in order. `within` gives what surrounds what is in a part, by what surrounds the part.
module _ {S A : Type 0} (within : S → Part → S) (found : S → Part → List A) where
  abbrev pub of_enum : S → Enum → List A
  of_enum around enum =
      found around (EnumPart enum.heading)
      ++ flat_map (λ value. found (within around (EnumPart enum.heading)) (ValuePart value)) enum.values

  abbrev pub of_leaf : S → Leaf → List A
  of_leaf around (leaf.Enum enum) = of_enum around enum
  of_leaf around (leaf.Field field) = found around (FieldPart field)
  of_leaf around (leaf.MapField field) = found around (MapFieldPart field)

  abbrev pub of_body : S → Body → List A
  of_body around NoMore = []
  of_body around (LeafThen leaf others) = of_leaf around leaf ++ of_body around others
  of_body around (BlockThen head inner others) =
      found around (BlockPart head) ++ (of_body (within around (BlockPart head)) inner ++ of_body around others)

  abbrev pub of_block : S → BlockTree → List A
  of_block around block =
      found around (BlockPart block.head) ++ of_body (within around (BlockPart block.head)) block.body

  abbrev pub of_service : S → Service → List A
  of_service around service =
      found around (ServicePart service.heading)
      ++ flat_map (λ method. found (within around (ServicePart service.heading)) (MethodPart method)) service.methods

  abbrev pub of_item : S → FileItem → List A
  of_item around (item.Block block) = of_block around block
  of_item around (item.Enum enum) = of_enum around enum
  of_item around (item.Service service) = of_service around service

  abbrev pub of_items : S → List FileItem → List A
  of_items around items = flat_map (of_item around) items

-- A part, with what surrounds it.
pub record Placed (S : Type 0) : Type 0 where
  pub around : S
  pub part : Part

abbrev pub placed : {S : Type 0} → S → Part → Placed S
placed around part = record { around = around; part = part }

-- The parts of items, each with what surrounds it, where this surrounds the items.
abbrev pub placed_parts : {S : Type 0} → (S → Part → S) → S → List FileItem → List (Placed S)
placed_parts within around items = of_items within (λ s part. placed s part ∷ []) around items

-- The same, where what surrounds them is no matter.
abbrev pub anywhere : Unit {0} → Part → Unit {0}
anywhere around part = around

abbrev pub one_part : Unit {0} → Part → List Part
one_part around part = part ∷ []

abbrev pub parts_in : List FileItem → List Part
parts_in items = of_items anywhere one_part tt items

abbrev pub parts_of : File → List Part
parts_of file = parts_in file.items

-- The types that a part names: that of a field, of a map field the value's, the one that is extended, what a method
-- takes and what it gives. A scalar type has no name.
abbrev pub named_by : FieldType → List TypeName
named_by (Scalar word) = []
named_by (Named name) = name ∷ []

abbrev pub extended_by : Head → List TypeName
extended_by (head.Extend type) = type ∷ []
extended_by _ = []

abbrev pub types_of : Part → List TypeName
types_of (BlockPart head) = extended_by head
types_of (FieldPart field) = named_by field.field_type
types_of (MapFieldPart field) = named_by field.value
types_of (MethodPart method) = method.input ∷ (method.output ∷ [])
types_of _ = []
