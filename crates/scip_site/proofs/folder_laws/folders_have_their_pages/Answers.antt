use Rattle.scip_site.proofs.FolderLawApartLemmas.{files_are_no_folders}
use Rattle.scip_site.proofs.ReadingGoodLemmas.{good_sources_fit, files_stay_below, pages_are_made_once}
use Rattle.scip_site.proofs.folder_laws.folders_have_their_pages.Goals as goal

pub returns : goal.returns
returns c = record {
  fit = good_sources_fit;
  below = files_stay_below;
  apart = files_are_no_folders;
  once = pages_are_made_once;
}
