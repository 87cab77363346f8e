use Rattle.std.proofs.Common.{◌≡◌, ◌∙◌, ap, ℕ, List, map}
use Rattle.std.specs.Borrow.{Bor}
use Rattle.std.proofs.lemmas.Result.{IfOk-weaker}
use Rattle.scip_records.specs.declared.records.Document.{Document}
use Rattle.scip_site.specs.Making.{paths_in}
use Rattle.scip_site.specs.Tree.{first_page}
use Rattle.scip_site.proofs.making.first_of.Goals as goal

pub returns : goal.returns
returns c =
    let site = c.args.site.now in
    let paths : map (λ (p : Bor (List ℕ)). p.now) c.deref.result.now
    ≡ paths_in site.queries.now.documents site.sources.now c.args.order.now =
    ap (map (λ (p : Bor (List ℕ)). p.now)) c.deref.ensures.value ∙ c.in_ok-paths.ensures
    ∙ ap (λ (ds : List Document). paths_in ds site.sources.now c.args.order.now) c.documents.ensures in
    IfOk-weaker c.first_page.result _ _ (λ page h. h ∙ ap first_page paths) c.first_page.ensures
