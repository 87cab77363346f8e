use Rattle.std.proofs.Common.{ℕ, List}
use Rattle.std.specs.String.{string_bytes}
use Rattle.scip_records.specs.declared.records.SymbolInformation.{SymbolInformation}
use Rattle.scip_survey.specs.Records.{OfExternal, ReadsBack, record_text}
use Rattle.scip_survey.proofs.ReadBackLemmas.{all_read, more_read, more_text}
use Rattle.scip_survey.proofs.records.push_externals.Goals as goal

pub loop-entry-preserved : goal.loop-entry-preserved
loop-entry-preserved c =
    let line : SymbolInformation → List ℕ = λ entry. record_text c.args.json (OfExternal entry) in
    let Reads : SymbolInformation → Type 0 = λ entry. ReadsBack (OfExternal entry) in
    let at = c.loop-entry.entry-index in (
      more_text line c.args.entries.now at c.entry-item.result (string_bytes c.args.text.now)
          (string_bytes c.loop-entry.text) (string_bytes c.push_external.new.text) c.loop-entry-test.true
          c.entry-item.is c.loop-entry.invariant.0 c.in_ok-push_external.ensures.text,
      λ json. more_read Reads c.args.entries.now at c.entry-item.result c.loop-entry-test.true
          c.entry-item.is (c.loop-entry.invariant.1 json) (c.in_ok-push_external.ensures.reads_back json),
    )

pub returns-clause-reads_back : goal.returns-clause-reads_back
returns-clause-reads_back c = λ json.
    let Reads : SymbolInformation → Type 0 = λ entry. ReadsBack (OfExternal entry) in
    all_read Reads c.args.entries.now c.loop-entry.entry-index c.loop-entry-test.false
    (c.loop-entry.invariant.1 json)
