use Rattle.scip_site.proofs.ReadingGoodLemmas.{reads_are_good}
use Rattle.scip_site.proofs.folder_laws.documents_with_pages_are_good.Goals as goal

pub returns : goal.returns
returns g c = reads_are_good (g.F.ReadFiles.gives c.args.files.now)
