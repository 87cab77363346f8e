use Rattle.option_link.proofs.MessageKindLemmas.{of_each}
use Rattle.option_link.proofs.messages.OptionMessages.find.Goals as goal

pub returns : goal.returns
returns c =
    of_each c.args.table.now (record {
      file = c.in_ok-messages_of.field-0;
      message = c.in_ok-messages_of-2.field-0;
      field = c.in_ok-messages_of-3.field-0;
      oneof = c.in_ok-messages_of-4.field-0;
      enumeration = c.in_ok-messages_of-5.field-0;
      value = c.in_ok-messages_of-6.field-0;
      service = c.in_ok-messages_of-7.field-0;
      method = c.in_ok-messages_of-8.field-0;
      range = c.in_ok-messages_of-9.field-0;
    }) (record { start = 0; end = 0 })
    c.in_ok-messages_of.ensures
    c.in_ok-messages_of-2.ensures
    c.in_ok-messages_of-3.ensures
    c.in_ok-messages_of-4.ensures
    c.in_ok-messages_of-5.ensures
    c.in_ok-messages_of-6.ensures
    c.in_ok-messages_of-7.ensures
    c.in_ok-messages_of-8.ensures
    c.in_ok-messages_of-9.ensures
