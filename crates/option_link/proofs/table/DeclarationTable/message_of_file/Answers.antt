use Rattle.std.proofs.Common.{sym, subst}
use Rattle.option_link.specs.Contexts.{options_message}
use Rattle.option_link.specs.Messages.{AreMessagesNamed}
use Rattle.option_link.proofs.MessageKindLemmas.{of_file}
use Rattle.option_link.proofs.table.DeclarationTable.message_of_file.Goals as goal

pub returns-in-Some : goal.returns-in-Some
returns-in-Some c =
    of_file c.args.self.now (options_message c.args.element) c.named.result.now c.args.file
    (subst (AreMessagesNamed c.args.self.now (options_message c.args.element)) (sym c.named.ensures)
    (c.in-Some.ensures c.args.element)) c.of_file.result c.of_file.ensures

pub of_file-requires : goal.of_file-requires
of_file-requires c =
    (subst (AreMessagesNamed c.args.self.now (options_message c.args.element)) (sym c.named.ensures)
    (c.in-Some.ensures c.args.element)).sorted

pub of_file-requires-in-None : goal.of_file-requires-in-None
of_file-requires-in-None c = c.in_ok-found-in-None.ensures.sorted

pub returns-in_ok-found-in-None : goal.returns-in_ok-found-in-None
returns-in_ok-found-in-None c =
    of_file c.args.self.now (options_message c.args.element) c.in_ok-found-in-None.found c.args.file
    c.in_ok-found-in-None.ensures c.of_file-in-None.result c.of_file-in-None.ensures
