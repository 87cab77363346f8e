use Rattle.scip_build.proofs.LawLemmas.{one_file_fault}
use Rattle.scip_build.proofs.laws.one_fault_a_file.Goals as goal

pub returns : goal.returns
returns c =
    one_file_fault c.one_lexing.ensures.tokens c.one_lexing.ensures.comments c.one_first_fault.ensures.one
    c.one_syntax_fault.ensures c.faults_exclude_facts.ensures.kinds
