use Rattle.source_files.proofs.PlainWalkLemmas.{plain_listing}
use Rattle.source_files.proofs.laws.unknown_folders_are_listed_plainly.Goals as goal

pub returns : goal.returns
returns g c = plain_listing (g.F.ReadFiles.lists c.args.files.now)
