use Rattle.proto_steps.proofs.AgreeFieldLemmas.{label_agrees}
use Rattle.proto_steps.proofs.parts.label.Goals as goal

pub returns : goal.returns
returns c = rw (label_agrees c.args.syntax c.args.parser.now) c.label.ensures
