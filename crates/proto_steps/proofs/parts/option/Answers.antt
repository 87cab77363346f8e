use Rattle.proto_steps.proofs.AgreeLemmas.{option_statement_agrees}
use Rattle.proto_steps.proofs.parts.option.Goals as goal

pub returns : goal.returns
returns c = rw (option_statement_agrees c.args.custom c.args.parser.now) c.option.ensures
