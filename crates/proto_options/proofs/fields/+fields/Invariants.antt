use Rattle.std.proofs.Common.{◌≡◌, ◌+◌, ◌*◌, ◌++◌, drop}
use Rattle.proto_parse.specs.Tree.{body_size, block_size}
use Rattle.proto_parse.specs.Items.{body_of}
use Rattle.proto_parse.specs.Parts.{of_body}
use Rattle.proto_options.specs.Fields.{extended_in, fields_by}
use Rattle.proto_options.proofs.fields.+fields.Given as goal

-- what is found so far, and the fields of the items left, are all
abbrev pub invariant-add_items-loop-item : goal.invariant-add_items-loop-item
invariant-add_items-loop-item l =
    l.fields.items ++ of_body extended_in fields_by l.extended (body_of (drop l.item-index l.items))
    ≡ l.fn.fields.items ++ of_body extended_in fields_by l.extended (body_of l.items)

abbrev pub decreases-add_block : goal.decreases-add_block
decreases-add_block l = 2 * block_size l.block.now

abbrev pub decreases-add_items : goal.decreases-add_items
decreases-add_items l = 2 * body_size (body_of l.items.now) + 1
