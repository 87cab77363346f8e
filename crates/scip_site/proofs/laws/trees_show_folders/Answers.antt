use Rattle.scip_site.proofs.NestingLemmas.{tree_shows_folders}
use Rattle.scip_site.proofs.laws.trees_show_folders.Goals as goal

pub returns : goal.returns
returns c = tree_shows_folders
