use Rattle.source_files.proofs.WalkOneListingLemmas.{one_listing}
use Rattle.source_files.proofs.laws.roots_have_one_listing.Goals as goal

pub returns : goal.returns
returns g c = one_listing (g.F.ReadFiles.lists c.args.files.now)
