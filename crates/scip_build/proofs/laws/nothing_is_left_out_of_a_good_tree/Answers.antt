use Rattle.scip_build.proofs.BuildLawGoodTreeLemmas.{nothing_is_told, built_where_nothing_is_told}
use Rattle.scip_build.proofs.laws.nothing_is_left_out_of_a_good_tree.Goals as goal

pub returns-clause-told : goal.returns-clause-told
returns-clause-told g c = nothing_is_told c.nothing_is_left_out_of_good_files.ensures

pub returns-clause-built : goal.returns-clause-built
returns-clause-built g c =
    built_where_nothing_is_told c.nothing_is_left_out_of_good_files.ensures (g.C.Chooses.allows c.args.chooser.now)
