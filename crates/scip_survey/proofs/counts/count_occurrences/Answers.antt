use Rattle.std.proofs.Common.{◌+◌, ◌∙◌, ap, length}
use Rattle.scip_survey.specs.Counts.{counted, occurrences_in}
use Rattle.scip_survey.proofs.CountLemmas.{counted_more}
use Rattle.scip_survey.proofs.counts.count_occurrences.Goals as goal

pub loop-document-preserved : goal.loop-document-preserved
loop-document-preserved c =
    counted_more occurrences_in c.args.documents.now c.loop-document.document-index c.document-item.result
    c.loop-document.count c.more_by-count.result c.loop-document-test.true c.document-item.is
    (c.more_by-count.ensures
    ∙ ap (λ n. counted (c.loop-document.count + n)) (ap length c.as_slice.ensures)) c.loop-document.invariant
