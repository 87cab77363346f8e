use Rattle.proto_steps.specs.Grammar.Definitions.{file}
use Rattle.proto_steps.proofs.FirstLemmas.{first_fault as of_step}
use Rattle.proto_steps.proofs.laws.first_fault.Goals as goal

pub returns : goal.returns
returns c = λ levels dialect. of_step (file levels dialect)
