use Rattle.std.proofs.Common.{◌≡◌, ◌+◌, ◌*◌, ◌++◌, drop}
use Rattle.proto_parse.specs.Tree.{body_size, block_size}
use Rattle.proto_parse.specs.Items.{body_of}
use Rattle.proto_decl.specs.Walked.{in_body, uses_in_body}
use Rattle.proto_decl.proofs.walk.+walk.Given as goal

-- what is found so far, and what the items left declare and use, is the whole
abbrev pub invariant-walk_items-loop-item : goal.invariant-walk_items-loop-item
invariant-walk_items-loop-item l = record {
  outlines : l.found.outlines.items ++ in_body l.text l.surrounding (body_of (drop l.item-index l.items))
      ≡ l.fn.found.outlines.items ++ in_body l.text l.surrounding (body_of l.items);
  uses : l.found.uses.items ++ uses_in_body l.text l.surrounding (body_of (drop l.item-index l.items))
      ≡ l.fn.found.uses.items ++ uses_in_body l.text l.surrounding (body_of l.items);
}

abbrev pub decreases-walk_block : goal.decreases-walk_block
decreases-walk_block l = 2 * block_size l.block.now

abbrev pub decreases-walk_items : goal.decreases-walk_items
decreases-walk_items l = 2 * body_size (body_of l.items.now) + 1
