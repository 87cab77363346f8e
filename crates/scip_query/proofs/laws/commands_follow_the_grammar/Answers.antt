use Rattle.scip_query.proofs.CommandGrammarLemmas.{command_found, command_exact}
use Rattle.scip_query.proofs.laws.commands_follow_the_grammar.Goals as goal

pub returns : goal.returns
returns c = record { found = command_found; exact = λ line command is. command_exact is }
