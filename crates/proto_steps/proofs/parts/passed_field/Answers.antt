use Rattle.proto_steps.proofs.AgreeFieldLemmas.{passed_field_agrees}
use Rattle.proto_steps.proofs.parts.passed_field.Goals as goal

pub returns : goal.returns
returns c = rw (passed_field_agrees c.args.custom c.args.parser.now) c.pass_field.ensures
