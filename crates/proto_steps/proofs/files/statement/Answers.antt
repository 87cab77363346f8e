use Rattle.proto_steps.specs.Limits.{max_message_depth}
use Rattle.proto_steps.proofs.FileLemmas.{statement_chosen}
use Rattle.proto_steps.proofs.files.statement.Goals as goal

pub returns : goal.returns
returns c =
    rw (
      statement_chosen max_message_depth c.args.syntax c.args.file.now c.args.parser.now,
      ← c.file_statement-statement.ensures,
    )
    c.chosen_statement.ensures
