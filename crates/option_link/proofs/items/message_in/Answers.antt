use Rattle.std.proofs.Common.{sym, ◌∙◌}
use Rattle.option_link.proofs.ItemLemmas.{entries_no_message, enum_no_message, options_no_message, scalar_no_message}
use Rattle.option_link.proofs.ItemLemmas.{skipped_no_message, untold_no_message}
use Rattle.option_link.proofs.items.message_in.Goals as goal

pub returns-in-Options : goal.returns-in-Options
returns-in-Options c = λ message is. options_no_message message (sym c.in-Options.is ∙ is)

pub returns-in-Entries : goal.returns-in-Entries
returns-in-Entries c = λ message is. entries_no_message c.in-Entries.field-0 message (sym c.in-Entries.is ∙ is)

pub returns-in-Enum : goal.returns-in-Enum
returns-in-Enum c = λ message is. enum_no_message c.in-Enum.field-0 message (sym c.in-Enum.is ∙ is)

pub returns-in-Scalar : goal.returns-in-Scalar
returns-in-Scalar c = λ message is. scalar_no_message message (sym c.in-Scalar.is ∙ is)

pub returns-in-Untold : goal.returns-in-Untold
returns-in-Untold c = λ message is. untold_no_message message (sym c.in-Untold.is ∙ is)

pub returns-in-Skipped : goal.returns-in-Skipped
returns-in-Skipped c = λ message is. skipped_no_message message (sym c.in-Skipped.is ∙ is)
