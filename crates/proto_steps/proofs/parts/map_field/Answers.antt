use Rattle.proto_steps.proofs.AgreeFieldLemmas.{map_statement_agrees}
use Rattle.proto_steps.proofs.parts.map_field.Goals as goal

pub returns : goal.returns
returns c = rw (map_statement_agrees c.args.custom c.args.parser.now) c.map_field.ensures
