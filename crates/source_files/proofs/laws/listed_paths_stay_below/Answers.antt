use Rattle.source_files.proofs.WalkLawLemmas.{listed_stay}
use Rattle.source_files.proofs.laws.listed_paths_stay_below.Goals as goal

pub returns : goal.returns
returns g c = listed_stay (g.F.ReadFiles.lists c.args.files.now)
