use Rattle.proto_steps.specs.Grammar.Definitions.{file}
use Rattle.proto_steps.proofs.StepLaws.{only_one as of_step}
use Rattle.proto_steps.proofs.laws.one_reading.Goals as goal

pub returns : goal.returns
returns c = λ levels dialect. of_step (file levels dialect)
