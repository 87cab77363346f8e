use Rattle.proto_steps.proofs.AgreeFieldLemmas.{integer_agrees}
use Rattle.proto_steps.proofs.parts.integer.Goals as goal

pub returns : goal.returns
returns c = rw (integer_agrees c.args.negative c.args.parser.now) c.integer.ensures
