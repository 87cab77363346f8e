use Rattle.proto_decl.proofs.ScopeLemmas.{around-qualified, one_around}
use Rattle.proto_decl.proofs.laws.scopes_nest.Goals as goal

pub returns-clause-nest : goal.returns-clause-nest
returns-clause-nest c = λ scope name simple. around-qualified scope name simple.some simple.no_dot

pub returns-clause-one : goal.returns-clause-one
returns-clause-one c = λ scope outer other is also. one_around is also
