use Rattle.proto_steps.proofs.FileLemmas.{path_literal_agrees}
use Rattle.proto_steps.proofs.parts.path_literal.Goals as goal

pub returns : goal.returns
returns c = rw (path_literal_agrees c.args.parser.now) c.plain_literal.ensures
