use Rattle.option_link.specs.Contexts.{options_message}
use Rattle.option_link.proofs.MessageKindLemmas.{lacks_there, lacks_nowhere}
use Rattle.option_link.proofs.table.DeclarationTable.lacks_message.Goals as goal

pub returns-in_ok-found-in-Some : goal.returns-in_ok-found-in-Some
returns-in_ok-found-in-Some c =
    lacks_there c.args.self.now c.args.source (options_message c.args.element) c.in-Some.file c.in-Some.ensures
    c.in_ok-found-in-Some.found c.is_none.result c.is_none.ensures c.in_ok-found-in-Some.ensures

pub returns-in-None : goal.returns-in-None
returns-in-None c =
    lacks_nowhere c.args.self.now c.args.source (options_message c.args.element) c.in-None.ensures
    c.has_no_options.result c.has_no_options.ensures
