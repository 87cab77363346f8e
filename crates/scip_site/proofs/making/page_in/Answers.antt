use Rattle.std.proofs.Common.{◌≡◌, ◌∙◌, ap, ℕ, List, map}
use Rattle.std.specs.Borrow.{Bor}
use Rattle.std.proofs.lemmas.Result.{IfOk-weaker}
use Rattle.scip_pages.specs.declared.columns.ColumnUnit.{ColumnUnit}
use Rattle.scip_pages.specs.Snapshot.{lines_of}
use Rattle.scip_pages.specs.Ids.{unit_in}
use Rattle.scip_pages.specs.Page.{page_of}
use Rattle.scip_site.proofs.making.page_in.Goals as goal

pub returns-clause-page : goal.returns-clause-page
returns-clause-page c =
    let index = c.args.site.now.queries.now in
    let sources = c.args.site.now.sources.now in
    let d = c.args.document.now in
    let made = c.in_ok-lines.lines in
    let lines : map (λ (l : Bor (List ℕ)). l.now) made.lines ≡ lines_of c.args.source.now =
    ap (map (λ (l : Bor (List ℕ)). l.now)) (c.in_ok-lines.ensures.lines ∙ c.deref.ensures.value)
    ∙ c.in_ok-texts.ensures in
    IfOk-weaker c.listed_page.result _ _
    (λ p e. e
    ∙ ap (λ (u : ColumnUnit). page_of index sources c.args.number d u
    (map (λ (l : Bor (List ℕ)). l.now) made.lines))
    (c.in_ok-lines.ensures.unit ∙ c.unit_in.ensures)
    ∙ ap (page_of index sources c.args.number d (unit_in d)) lines) c.listed_page.ensures.page
