use Rattle.proto_steps.proofs.AgreeFieldLemmas.{reserved_agrees}
use Rattle.proto_steps.proofs.parts.reserved.Goals as goal

pub returns : goal.returns
returns c = rw (reserved_agrees c.args.negative c.args.parser.now) c.reserved.ensures
