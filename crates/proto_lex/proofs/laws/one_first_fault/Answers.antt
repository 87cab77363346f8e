use Rattle.proto_lex.proofs.FaultExact.{one_fault, no_fault, lexes_or_faults}
use Rattle.proto_lex.proofs.laws.one_first_fault.Goals as goal

pub returns-clause-one : goal.returns-clause-one
returns-clause-one c = λ hashes text fault other a b. one_fault a b

pub returns-clause-none : goal.returns-clause-none
returns-clause-none c = λ hashes text tokens comments fault a b. no_fault a b

pub returns-clause-or_lexes : goal.returns-clause-or_lexes
returns-clause-or_lexes c = lexes_or_faults
