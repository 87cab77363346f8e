-- A block's tree, as contracts see it. Only blocks nest.
use Rattle.std.specs.Prelude.{ℕ, ◌+◌}
use Rattle.proto_grammar.specs.declared.tree.Head.{Head}
use Rattle.proto_grammar.specs.declared.tree.Leaf.{Leaf}

-- What is between a block's braces, in order.
pub data Body : Type 0 where
  NoMore : Body
  LeafThen : (leaf : Leaf) (others : Body) → Body
  BlockThen : (head : Head) (inner others : Body) → Body

pub record BlockTree : Type 0 where
  pub head : Head
  pub body : Body

-- How many blocks are in a body, at any depth.
abbrev pub body_size : Body → ℕ
body_size NoMore = 0
body_size (LeafThen leaf others) = body_size others
body_size (BlockThen head inner others) = 1 + body_size inner + body_size others

abbrev pub block_size : BlockTree → ℕ
block_size block = body_size block.body + 1
