use Rattle.std.proofs.Common.{◌∙◌, sym, ap, List, length}
use Rattle.scip_records.specs.declared.records.Document.{Document}
use Rattle.scip_pages.specs.Facts.{serves}
use Rattle.scip_pages.proofs.FactLemmas.{served_tells}
use Rattle.scip_pages.proofs.facts.serving.Goals as goal

pub returns-then-serves : goal.returns-then-serves
returns-then-serves c =
    let fact = c.args.fact.now in
    let document = c.args.document in
    let symbol = c.args.symbol.now in
    served_tells c.args.site.now.queries.now c.args.site.now.sources.now fact document symbol c.requires
    (ap (λ (ds : List Document). serves fact (length ds) document symbol) (sym c.documents-count.ensures)
    ∙ sym c.serves.ensures ∙ c.if-serves.true)
