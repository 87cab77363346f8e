use Rattle.proto_steps.proofs.AgreeLemmas.{pass_type_name_agrees}
use Rattle.proto_steps.proofs.parts.passed_type_name.Goals as goal

pub returns : goal.returns
returns c = rw (pass_type_name_agrees c.args.parser.now) c.pass_type_name.ensures
