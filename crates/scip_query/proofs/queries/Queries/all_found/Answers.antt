use Rattle.std.proofs.Common.{◌≡◌, ◌∙◌, ap, subst, List, get_or, length, map, arith}
use Rattle.scip_records.specs.declared.records.Document.{Document}
use Rattle.scip_query.specs.Finding.{all_found, found_in}
use Rattle.scip_query.specs.MoreViews.{found_view}
use Rattle.scip_query.proofs.FindingLemmas.{found_on, found_all}
use Rattle.scip_query.proofs.queries.Queries.all_found.Goals as goal

pub loop-number-preserved : goal.loop-number-preserved
loop-number-preserved c =
    let documents = c.args.self.now.documents in
    found_on (found_in c.args.self.now c.args.text.now) c.loop-number.number documents c.index-documents-number.result
    (map found_view c.loop-number.found.items) (map found_view c.push_found_in.new.found.items)
    (omega (arith, ap length c.documents-documents.ensures))
    (subst (λ (all : List Document). c.index-documents-number.result
    ≡ get_or all c.loop-number.number c.index-documents-number.result) c.documents-documents.ensures
    c.index-documents-number.is)
    c.in_ok-push_found_in.ensures
    ∙ c.loop-number.invariant

pub returns : goal.returns
returns c =
    found_all (found_in c.args.self.now c.args.text.now) c.args.self.now.documents (map found_view c.loop-number.found.items)
    (all_found c.args.self.now c.args.text.now) c.loop-number.number (omega (arith, ap length c.documents-documents.ensures)) c.loop-number.invariant
