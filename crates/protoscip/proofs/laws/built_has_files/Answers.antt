use Rattle.protoscip.proofs.HeadlineFileLemmas.{files_of_build, files_of_built}
use Rattle.protoscip.proofs.laws.built_has_files.Goals as goal

pub returns : goal.returns
returns g c =
    let allows = g.C.Chooses.allows c.args.chooser.now in
    record {
      of_fault = λ settings tree workers fault is. files_of_build allows settings tree workers fault is;
      of_told = λ settings tree built is. files_of_built allows settings tree built is;
    }
