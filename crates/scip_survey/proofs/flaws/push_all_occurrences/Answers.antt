use Rattle.std.proofs.Common.{◌≡◌, ◌∙◌, ◌++◌, ℕ, List, ap, arith, get_or, length, map, subst}
use Rattle.std.specs.List.{enumerate_from, flat_map}
use Rattle.scip_records.specs.declared.records.Occurrence.{Occurrence}
use Rattle.scip_query.proofs.NamedLemmas.{pieces_done, pieces_on}
use Rattle.scip_survey.specs.Flaws.{Flawed, occurrence_flaws}
use Rattle.scip_survey.specs.Views.{document_view, flawed_view}
use Rattle.scip_survey.proofs.flaws.push_all_occurrences.Goals as goal

pub loop-number-preserved : goal.loop-number-preserved
loop-number-preserved c =
    let occurrences = c.args.looked.document.now.occurrences in
    let flaws : ℕ × Occurrence → List Flawed =
    occurrence_flaws c.args.looked.queries.now (document_view c.args.looked) in
    pieces_on flaws c.loop-number.number occurrences c.index-occurrences-number.result
    (map flawed_view c.loop-number.flaws.items) (map flawed_view c.push_occurrence_flaws.new.flaws.items)
    (omega (arith, ap length c.as_slice-occurrences.ensures))
    (subst (λ (all : List Occurrence). c.index-occurrences-number.result
    ≡ get_or all c.loop-number.number c.index-occurrences-number.result) c.as_slice-occurrences.ensures
    c.index-occurrences-number.is)
    c.in_ok-push_occurrence_flaws.ensures
    ∙ c.loop-number.invariant

pub returns : goal.returns
returns c =
    let flaws : ℕ × Occurrence → List Flawed =
    occurrence_flaws c.args.looked.queries.now (document_view c.args.looked) in
    let occurrences = c.args.looked.document.now.occurrences in
    pieces_done flaws c.loop-number.number occurrences (map flawed_view c.loop-number.flaws.items)
    (map flawed_view c.args.flaws.now.items ++ flat_map flaws (enumerate_from 0 occurrences))
    (omega (arith, ap length c.as_slice-occurrences.ensures)) c.loop-number.invariant
