-- A block's items as its body.
use Rattle.std.specs.Prelude.{List, [], ◌∷◌}
use Rattle.proto_grammar.specs.declared.tree.Item.{Item}
use Rattle.proto_grammar.specs.declared.tree.Item.TheVariants.{Block, Leaf}
use Rattle.proto_grammar.specs.Tree.{Body}
use Rattle.proto_grammar.specs.Tree.Body.{NoMore, LeafThen, BlockThen}

abbrev pub item_then : Item → Body → Body
item_then (Block block) others = BlockThen block.head block.body others
item_then (Leaf leaf) others = LeafThen leaf others

abbrev pub body_of : List Item → Body
body_of [] = NoMore
body_of (item ∷ items) = item_then item (body_of items)
