use Rattle.proto_steps.proofs.AgreeFieldLemmas.{extensions_agree}
use Rattle.proto_steps.proofs.parts.extensions.Goals as goal

pub returns : goal.returns
returns c = rw (extensions_agree c.args.custom c.args.parser.now) c.extensions.ensures
