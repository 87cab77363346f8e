use Rattle.proto_steps.proofs.AgreeFieldLemmas.{typed_agrees}
use Rattle.proto_steps.proofs.parts.typed.Goals as goal

pub returns : goal.returns
returns c = rw (typed_agrees c.args.custom c.args.first c.args.label c.args.parser.now) c.typed.ensures
