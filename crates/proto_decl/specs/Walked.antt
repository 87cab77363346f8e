-- What is declared and used in each of what a walk goes through, at a surrounding, and its parts.
use Rattle.std.specs.Prelude.{ℕ, false, List, map}
use Rattle.proto_parse.specs.tree.FieldType.{FieldType}
use Rattle.proto_parse.specs.tree.Enum.{Enum}
use Rattle.proto_parse.specs.tree.Head.{Head}
use Rattle.proto_parse.specs.tree.Leaf.{Leaf as LeafTree}
use Rattle.proto_parse.specs.tree.Item.{Item}
use Rattle.proto_parse.specs.tree.Item.TheVariants.{Block, Leaf}
use Rattle.proto_parse.specs.tree.Method.{Method}
use Rattle.proto_parse.specs.tree.Service.{Service}
use Rattle.proto_parse.specs.tree.FileItem.{FileItem}
use Rattle.proto_parse.specs.Tree.{Body, BlockTree}
use Rattle.proto_parse.specs.Parts.{Part, of_enum, of_leaf, of_body, of_block, of_service, of_item, anywhere, one_part}
use Rattle.proto_parse.specs.Parts.{named_by}
use Rattle.proto_parse.specs.Parts.Part.{BlockPart, MethodPart}
use Rattle.proto_decl.specs.Declares.{inside_part, declared_by}
use Rattle.proto_decl.specs.Uses.{use_of, used_by}
use Rattle.proto_decl.specs.declared.declaration.Outline.{Outline}
use Rattle.proto_decl.specs.declared.surrounding.Surrounding.{Surrounding}
use Rattle.proto_decl.specs.declared.uses.Use.{Use}

abbrev pub in_enum : (text : List ℕ) → Surrounding → Enum → List Outline
in_enum text surrounding enum = of_enum (inside_part text) (declared_by text) surrounding enum

abbrev pub in_leaf : (text : List ℕ) → Surrounding → LeafTree → List Outline
in_leaf text surrounding leaf = of_leaf (inside_part text) (declared_by text) surrounding leaf

abbrev pub in_body : (text : List ℕ) → Surrounding → Body → List Outline
in_body text surrounding body = of_body (inside_part text) (declared_by text) surrounding body

abbrev pub in_block : (text : List ℕ) → Surrounding → BlockTree → List Outline
in_block text surrounding block = of_block (inside_part text) (declared_by text) surrounding block

abbrev pub in_service : (text : List ℕ) → Surrounding → Service → List Outline
in_service text surrounding service = of_service (inside_part text) (declared_by text) surrounding service

abbrev pub in_item : (text : List ℕ) → Surrounding → FileItem → List Outline
in_item text surrounding item = of_item (inside_part text) (declared_by text) surrounding item

abbrev pub uses_of_type : (text scope : List ℕ) → FieldType → List Use
uses_of_type text scope type = map (use_of false text scope) (named_by type)

abbrev pub uses_of_head : (text : List ℕ) → Surrounding → Head → List Use
uses_of_head text surrounding head = used_by text surrounding (BlockPart head)

abbrev pub uses_of_method : (text : List ℕ) → Surrounding → Method → List Use
uses_of_method text surrounding method = used_by text surrounding (MethodPart method)

abbrev pub uses_in_leaf : (text : List ℕ) → Surrounding → LeafTree → List Use
uses_in_leaf text surrounding leaf = of_leaf (inside_part text) (used_by text) surrounding leaf

abbrev pub uses_in_body : (text : List ℕ) → Surrounding → Body → List Use
uses_in_body text surrounding body = of_body (inside_part text) (used_by text) surrounding body

abbrev pub uses_in_block : (text : List ℕ) → Surrounding → BlockTree → List Use
uses_in_block text surrounding block = of_block (inside_part text) (used_by text) surrounding block

abbrev pub uses_in_service : (text : List ℕ) → Surrounding → Service → List Use
uses_in_service text surrounding service = of_service (inside_part text) (used_by text) surrounding service

abbrev pub uses_in_item : (text : List ℕ) → Surrounding → FileItem → List Use
uses_in_item text surrounding item = of_item (inside_part text) (used_by text) surrounding item

abbrev pub parts_in_enum : Enum → List Part
parts_in_enum enum = of_enum anywhere one_part tt enum

abbrev pub parts_in_leaf : LeafTree → List Part
parts_in_leaf leaf = of_leaf anywhere one_part tt leaf

abbrev pub parts_in_block : BlockTree → List Part
parts_in_block block = of_block anywhere one_part tt block

abbrev pub parts_in_service : Service → List Part
parts_in_service service = of_service anywhere one_part tt service

abbrev pub parts_in_item : FileItem → List Part
parts_in_item item = of_item anywhere one_part tt item

-- of an item of a block
abbrev pub parts_of_inner : Item → List Part
parts_of_inner (Block block) = parts_in_block block
parts_of_inner (Leaf leaf) = parts_in_leaf leaf
