use Rattle.proto_steps.proofs.AgreeLemmas.{name_agrees}
use Rattle.proto_steps.proofs.parts.name.Goals as goal

pub returns : goal.returns
returns c = rw (name_agrees c.args.parser.now) c.name.ensures
