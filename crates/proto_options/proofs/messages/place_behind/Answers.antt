use Rattle.std.proofs.Common.{◌∙◌, ap, length}
use Rattle.proto_grammar.specs.Lexeme.{place_of}
use Rattle.proto_grammar.specs.Terminal.{others, behind}
use Rattle.proto_options.proofs.MessageLemmas.{parted_from}
use Rattle.proto_options.proofs.messages.place_behind.Goals as goal

pub returns : goal.returns
returns c =
    c.advance.ensures ∙ ap behind c.at-cursor.ensures
    ∙ ap (λ left. place_of (length c.args.lexed.now.text) (others left))
    (parted_from c.args.start c.tokens_before.result c.args.lexed.now.text c.args.lexed.now.tokens
    c.tokens_before.ensures.within c.tokens_before.ensures.parted)
