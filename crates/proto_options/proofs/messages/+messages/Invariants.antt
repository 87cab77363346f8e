use Rattle.std.proofs.Common.{◌≡◌, ◌+◌, ◌*◌, ◌++◌, drop}
use Rattle.proto_grammar.specs.Lexeme.{lexemes_of}
use Rattle.proto_parse.specs.Tree.{body_size, block_size}
use Rattle.proto_parse.specs.Items.{body_of}
use Rattle.proto_parse.specs.Parts.{anywhere, of_body}
use Rattle.proto_options.specs.Messages.{said_by}
use Rattle.proto_options.proofs.messages.+messages.Given as goal

-- what is found so far, and what the items left say, are all
abbrev pub invariant-add_items-loop-item : goal.invariant-add_items-loop-item
invariant-add_items-loop-item l =
    l.facts.items ++ of_body anywhere (said_by (lexemes_of l.lexed.text l.lexed.tokens)) tt
    (body_of (drop l.item-index l.items))
    ≡ l.fn.facts.items ++ of_body anywhere (said_by (lexemes_of l.lexed.text l.lexed.tokens)) tt
    (body_of l.items)

abbrev pub decreases-add_block : goal.decreases-add_block
decreases-add_block l = 2 * block_size l.block.now

abbrev pub decreases-add_items : goal.decreases-add_items
decreases-add_items l = 2 * body_size (body_of l.items.now) + 1
