use Rattle.proto_steps.proofs.AgreeLemmas.{named_type_agrees}
use Rattle.proto_steps.proofs.parts.named_type.Goals as goal

pub returns : goal.returns
returns c = rw (named_type_agrees c.args.parser.now) c.named_type.ensures
