use Rattle.std.proofs.Common.{◌≡◌, ◌∙◌, ap, subst, List, get_or, length, map, arith}
use Rattle.std.specs.List.{flat_map}
use Rattle.scip_records.specs.declared.records.Document.{Document}
use Rattle.scip_query.specs.MoreViews.{site_view}
use Rattle.scip_query.specs.Named.{has_name}
use Rattle.scip_query.specs.Sites.{numbered_documents}
use Rattle.scip_query.specs.Tables.Named.{kept_in}
use Rattle.scip_query.proofs.FindingLemmas.{found_on, found_all}
use Rattle.scip_query.proofs.NamedLemmas.{kept_sites}
use Rattle.scip_query.proofs.queries.Queries.references_named.Goals as goal

pub loop-number-preserved : goal.loop-number-preserved
loop-number-preserved c =
    let documents = c.args.self.now.documents in
    found_on (kept_in (has_name c.args.self.now c.args.text.now)) c.loop-number.number documents
    c.index-documents-number.result (map site_view c.loop-number.sites.items)
    (map site_view c.push_named_in.new.sites.items) (omega (arith, ap length c.documents-documents.ensures))
    (subst (λ (all : List Document). c.index-documents-number.result
    ≡ get_or all c.loop-number.number c.index-documents-number.result) c.documents-documents.ensures
    c.index-documents-number.is)
    c.in_ok-push_named_in.ensures
    ∙ c.loop-number.invariant

pub returns : goal.returns
returns c =
    let test = has_name c.args.self.now c.args.text.now in
    found_all (kept_in test) c.args.self.now.documents (map site_view c.loop-number.sites.items)
    (flat_map (kept_in test) (numbered_documents c.args.self.now)) c.loop-number.number
    (omega (arith, ap length c.documents-documents.ensures)) c.loop-number.invariant
    ∙ kept_sites c.args.self.now test
