use Rattle.std.proofs.Common.{ℕ, List}
use Rattle.std.specs.String.{string_bytes}
use Rattle.scip_records.specs.declared.records.Occurrence.{Occurrence}
use Rattle.scip_survey.specs.Records.{OfOccurrence, ReadsBack, record_text}
use Rattle.scip_survey.proofs.ReadBackLemmas.{all_read, more_read, more_text}
use Rattle.scip_survey.proofs.records.push_occurrences.Goals as goal

pub loop-occurrence-preserved : goal.loop-occurrence-preserved
loop-occurrence-preserved c =
    let line : Occurrence → List ℕ = λ o. record_text c.args.json (OfOccurrence c.args.path.now o) in
    let Reads : Occurrence → Type 0 = λ o. ReadsBack (OfOccurrence c.args.path.now o) in
    let at = c.loop-occurrence.occurrence-index in (
      more_text line c.args.occurrences.now at c.occurrence-item.result (string_bytes c.args.text.now)
          (string_bytes c.loop-occurrence.text) (string_bytes c.push_occurrence.new.text) c.loop-occurrence-test.true
          c.occurrence-item.is c.loop-occurrence.invariant.0 c.in_ok-push_occurrence.ensures.text,
      λ json. more_read Reads c.args.occurrences.now at c.occurrence-item.result c.loop-occurrence-test.true
          c.occurrence-item.is (c.loop-occurrence.invariant.1 json) (c.in_ok-push_occurrence.ensures.reads_back json),
    )

pub returns-clause-reads_back : goal.returns-clause-reads_back
returns-clause-reads_back c = λ json.
    let Reads : Occurrence → Type 0 = λ o. ReadsBack (OfOccurrence c.args.path.now o) in
    all_read Reads c.args.occurrences.now c.loop-occurrence.occurrence-index c.loop-occurrence-test.false
    (c.loop-occurrence.invariant.1 json)
