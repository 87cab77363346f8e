use Rattle.scip_query.proofs.MoreCommandLemmas.{more_found, more_exact}
use Rattle.scip_query.proofs.laws.more_commands_follow_the_grammar.Goals as goal

pub returns : goal.returns
returns c = record { found = more_found; exact = λ line command is. more_exact is }
