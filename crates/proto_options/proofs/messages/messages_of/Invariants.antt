use Rattle.std.proofs.Common.{◌≡◌, ◌++◌, drop}
use Rattle.std.specs.List.{flat_map}
use Rattle.proto_grammar.specs.Lexeme.{lexemes_of}
use Rattle.proto_parse.specs.Parts.{anywhere, of_item}
use Rattle.proto_options.specs.Messages.{said_by}
use Rattle.proto_options.proofs.messages.messages_of.Given as goal

-- what is found so far, and what the items left say, are all
abbrev pub invariant-loop-item : goal.invariant-loop-item
invariant-loop-item l =
    l.facts.items
    ++ flat_map (of_item anywhere (said_by (lexemes_of l.fn.lexed.text l.fn.lexed.tokens)) tt)
    (drop l.item-index l.item-items)
    ≡ flat_map (of_item anywhere (said_by (lexemes_of l.fn.lexed.text l.fn.lexed.tokens)) tt) l.item-items
