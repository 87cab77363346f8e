use Rattle.proto_steps.specs.Grammar.Definitions.{file}
use Rattle.proto_steps.proofs.FirstLemmas.{derives_or_refused as of_step}
use Rattle.proto_steps.proofs.laws.derives_or_refused.Goals as goal

pub returns : goal.returns
returns c = λ levels dialect. of_step (file levels dialect)
