-- Each block in a body is smaller than what the body is in.
use Rattle.std.specs.Prelude.{◌+◌, ◌≤◌, List, [], ◌∷◌}
use Rattle.std.proofs.Common.{arith}
use denote.Param.Weighed.{most}
use Rattle.proto_grammar.specs.declared.tree.Item.{Item}
use Rattle.proto_grammar.specs.declared.tree.Item.TheVariants.{Block, Leaf}
use Rattle.proto_grammar.specs.declared.tree.Block.TheDeep.{deep-Item}
use Rattle.proto_grammar.specs.Tree.{body_size}
use Rattle.proto_grammar.specs.Items.{body_of}

pub most_le-body_size : (items : List Item) → most deep-Item items ≤ body_size (body_of items) + 1
most_le-body_size [] = omega arith
most_le-body_size (Block block ∷ items) = omega (arith, most_le-body_size items)
most_le-body_size (Leaf leaf ∷ items) = omega (arith, most_le-body_size items)
