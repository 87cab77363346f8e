use Rattle.proto_steps.proofs.AgreeFieldLemmas.{options_agree}
use Rattle.proto_steps.proofs.parts.options.Goals as goal

pub returns : goal.returns
returns c = rw (options_agree c.args.custom c.args.parser.now) c.options.ensures
