use Rattle.std.proofs.Common.{◌∙◌, ◌++◌, List, ap, sym}
use Rattle.std.proofs.lemmas.List.{append-nil}
use Rattle.proto_grammar.specs.Lexeme.{lexemes_of}
use Rattle.proto_parse.specs.Parts.{anywhere, of_item}
use Rattle.proto_options.specs.declared.messages.MessageFact.{MessageFact}
use Rattle.proto_options.specs.Messages.{said_by}
use Rattle.proto_options.proofs.MessageLemmas.{none_in_enum, none_in_service}
use Rattle.proto_options.proofs.messages.add_item.Goals as goal

pub returns-in-Enum : goal.returns-in-Enum
returns-in-Enum c =
    let facts = c.args.facts.now.items in
    let tokens = lexemes_of c.args.lexed.now.text c.args.lexed.now.tokens in
    sym
    (ap (λ (found : List MessageFact). facts ++ found)
    (ap (of_item anywhere (said_by tokens) tt) c.in-Enum.is ∙ none_in_enum tokens c.in-Enum.field-0)
    ∙ append-nil facts)

pub returns-in-Service : goal.returns-in-Service
returns-in-Service c =
    let facts = c.args.facts.now.items in
    let tokens = lexemes_of c.args.lexed.now.text c.args.lexed.now.tokens in
    sym
    (ap (λ (found : List MessageFact). facts ++ found)
    (ap (of_item anywhere (said_by tokens) tt) c.in-Service.is ∙ none_in_service tokens c.in-Service.field-0)
    ∙ append-nil facts)
