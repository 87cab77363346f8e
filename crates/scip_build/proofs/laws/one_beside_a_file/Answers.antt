use Rattle.scip_build.proofs.LawLemmas.{one_beside}
use Rattle.scip_build.proofs.laws.one_beside_a_file.Goals as goal

pub returns : goal.returns
returns c = one_beside c.one_lexing.ensures.tokens c.one_lexing.ensures.comments c.one_tree.ensures
    c.one_list_of_options.ensures
