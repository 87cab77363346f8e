use Rattle.scip_build.proofs.LinkingLemmas.{own_paths}
use Rattle.scip_build.proofs.laws.parsed_files_have_own_paths.Goals as goal

pub returns : goal.returns
returns g c = λ faulty dialect form files parsed are own. own_paths faulty dialect form
    (g.C.Chooses.allows c.args.chooser.now) files parsed are own
