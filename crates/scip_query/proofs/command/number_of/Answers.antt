use Rattle.std.proofs.Common.{◌∙◌, ap, sym}
use Rattle.scip_query.specs.CommandReading.{at_most}
use Rattle.scip_query.proofs.CommandLemmas.{written_digits, number_written, number_unwritten}
use Rattle.scip_query.proofs.command.number_of.Goals as goal

pub value_of-requires : goal.value_of-requires
value_of-requires c =
    let written = written_digits c.args.word.now (sym c.is_written.ensures ∙ c.if-is_written.true) in
    record { digits = written.0; few = written.1 }

pub returns-then-is_written : goal.returns-then-is_written
returns-then-is_written c =
    c.at_most.ensures ∙ ap at_most c.value_of.ensures
    ∙ sym (number_written c.args.word.now (sym c.is_written.ensures ∙ c.if-is_written.true))

pub returns-else-is_written : goal.returns-else-is_written
returns-else-is_written c = sym (number_unwritten c.args.word.now (sym c.is_written.ensures ∙ c.if-is_written.false))
