use Rattle.option_link.specs.Contexts.{options_message}
use Rattle.option_link.proofs.MessageKindLemmas.{of_options_file, no_file_no_message}
use Rattle.option_link.proofs.table.DeclarationTable.options_message.Goals as goal

pub returns-in-Some : goal.returns-in-Some
returns-in-Some c =
    of_options_file c.args.self.now c.args.source (options_message c.args.element) c.in-Some.file c.in-Some.ensures
    c.message_of_file.result c.message_of_file.ensures

pub returns-in-None : goal.returns-in-None
returns-in-None c =
    no_file_no_message c.args.self.now c.args.source (options_message c.args.element) c.in-None.ensures
