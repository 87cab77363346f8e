use Rattle.scip_build.proofs.LawLemmas.{no_facts_where_unreadable, lexed_where_unparsed}
use Rattle.scip_build.proofs.laws.faults_exclude_facts.Goals as goal

pub returns-clause-facts : goal.returns-clause-facts
returns-clause-facts c =
    no_facts_where_unreadable c.one_lexing.ensures.tokens c.one_lexing.ensures.comments c.one_first_fault.ensures.none
    c.no_fault_where_it_derives.ensures

pub returns-clause-kinds : goal.returns-clause-kinds
returns-clause-kinds c =
    lexed_where_unparsed c.one_lexing.ensures.tokens c.one_lexing.ensures.comments c.one_first_fault.ensures.none
    c.no_fault_where_it_derives.ensures
