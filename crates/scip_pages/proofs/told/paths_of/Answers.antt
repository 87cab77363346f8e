use Rattle.std.proofs.Common.{◌∙◌, ap, map}
use Rattle.std.proofs.lemmas.Result.{IfOk-weaker}
use Rattle.basics.proofs.LoopLemmas.{fused}
use Rattle.scip_query.specs.Finding as finding
use Rattle.scip_query.specs.MoreViews.{found_view, site_view}
use Rattle.scip_query.specs.Sites as sites
use Rattle.scip_query.specs.declared.finding.Found.{Found}
use Rattle.scip_query.specs.declared.site.Site.{Site}
use Rattle.scip_pages.proofs.told.paths_of.Goals as goal

pub returns-in-Sites : goal.returns-in-Sites
returns-in-Sites c =
    rw c.in-Sites.is (IfOk-weaker c.paths_of_sites.result _ _
    (λ paths e. e ∙ (ap (map (λ (s : Site). (site_view s).document.relative_path)) c.as_slice.ensures.value
    ∙ fused (λ (s : sites.Site). s.document.relative_path) site_view c.in-Sites.sites.items))
    c.paths_of_sites.ensures)

pub returns-in-Found : goal.returns-in-Found
returns-in-Found c =
    rw c.in-Found.is (IfOk-weaker c.paths_of_found.result _ _
    (λ paths e. e ∙ (ap (map (λ (f : Found). (found_view f).path)) c.as_slice-in-Found.ensures.value
    ∙ fused (λ (f : finding.Found). f.path) found_view c.in-Found.found.items))
    c.paths_of_found.ensures)
