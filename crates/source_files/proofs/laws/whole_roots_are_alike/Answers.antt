use Rattle.source_files.proofs.RootLawLemmas.{whole_roots}
use Rattle.source_files.proofs.laws.whole_roots_are_alike.Goals as goal

pub returns : goal.returns
returns g c = whole_roots (g.F.ReadFiles.lists c.args.files.now) (g.F.ReadFiles.gives c.args.files.now)
