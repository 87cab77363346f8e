use Rattle.proto_steps.proofs.JoinedLemmas.{version_agrees}
use Rattle.proto_steps.proofs.syntax.named_version.Goals as goal

pub returns : goal.returns
returns c = rw (version_agrees c.args.dialect c.args.parser.now) c.accepted.ensures
