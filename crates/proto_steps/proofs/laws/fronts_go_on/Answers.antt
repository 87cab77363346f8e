use Rattle.proto_steps.specs.Grammar.Definitions.{heading, file_statements, service}
use Rattle.proto_steps.proofs.FrontLemmas.{goes_on}
use Rattle.proto_steps.proofs.SteadyLemmas.{service_steady}
use Rattle.proto_steps.proofs.SteadyFileLemmas.{file_statements_steady}
use Rattle.proto_steps.proofs.laws.fronts_go_on.Goals as goal

pub returns-clause-service : goal.returns-clause-service
unfolding service heading
returns-clause-service c = λ custom. goes_on (service custom) (service_steady custom) tt

pub returns-clause-file : goal.returns-clause-file
unfolding file_statements
returns-clause-file c = λ levels syntax. goes_on (file_statements levels syntax) (file_statements_steady levels syntax)
    tt
