use Rattle.std.proofs.Common.{◌≡◌, ◌∙◌, ap, subst, List, get_or, length, map, arith}
use Rattle.scip_records.specs.declared.records.Document.{Document}
use Rattle.scip_query.proofs.FindingLemmas.{found_on, found_all}
use Rattle.scip_survey.specs.Flaws.{document_flaws, flaws_of}
use Rattle.scip_survey.specs.Views.{flawed_view}
use Rattle.scip_survey.proofs.flaws.flaws_of.Goals as goal

pub loop-number-preserved : goal.loop-number-preserved
loop-number-preserved c =
    let documents = c.args.queries.now.documents in
    found_on (document_flaws c.args.queries.now) c.loop-number.number documents c.index-documents-number.result
    (map flawed_view c.loop-number.flaws.items) (map flawed_view c.push_document_flaws.new.flaws.items)
    (omega (arith, ap length c.documents-documents.ensures))
    (subst (λ (all : List Document). c.index-documents-number.result
    ≡ get_or all c.loop-number.number c.index-documents-number.result) c.documents-documents.ensures
    c.index-documents-number.is)
    c.in_ok-push_document_flaws.ensures
    ∙ c.loop-number.invariant

pub returns : goal.returns
returns c =
    found_all (document_flaws c.args.queries.now) c.args.queries.now.documents (map flawed_view c.loop-number.flaws.items)
    (flaws_of c.args.queries.now) c.loop-number.number (omega (arith, ap length c.documents-documents.ensures))
    c.loop-number.invariant
