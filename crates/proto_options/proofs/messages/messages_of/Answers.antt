use Rattle.std.proofs.Common.{◌≡◌, ◌∙◌, sym, false}
use Rattle.proto_grammar.specs.Lexeme.{lexemes_of}
use Rattle.proto_options.specs.Messages.{says_any}
use Rattle.proto_options.proofs.MessageLemmas.{none_in_items}
use Rattle.proto_options.proofs.messages.messages_of.Goals as goal

pub returns-then-not-says_any : goal.returns-then-not-says_any
returns-then-not-says_any c =
    let tokens = lexemes_of c.args.lexed.now.text c.args.lexed.now.tokens in
    let none : says_any tokens ≡ false = sym c.says_any.ensures ∙ c.if-not-says_any.true in
    c.new.ensures ∙ sym (none_in_items tokens none c.args.file.now.items)
