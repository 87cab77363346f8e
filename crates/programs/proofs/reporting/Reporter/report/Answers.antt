use Rattle.std.specs.Option.{option_map}
use Rattle.std.specs.String.{string_bytes}
use Rattle.programs.specs.Choices.{IsChosenBy}
use Rattle.programs.proofs.ReportingLemmas.{of_a_fault, of_an_index}
use Rattle.programs.proofs.reporting.Reporter.report.Goals as goal

pub returns-in_ok-report_of_fault-in-Some-clause-made : goal.returns-in_ok-report_of_fault-in-Some-clause-made
returns-in_ok-report_of_fault-in-Some-clause-made g c =
    let run = c.args.self.now.run.now in
    let fault = c.in-Some.fault in
    let told = c.as_slice.result.now in
    let bytes = c.in_ok-report_of_fault-in-Some.field-0.items in
    let allows = IsChosenBy (option_map (λ f. string_bytes f.promise.0) run.choices.filter)
    (option_map (λ r. r.promise.0) run.choices.rule) in
    rw c.in-Some.is
    (of_a_fault allows run.settings run.tree run.unread.items
    c.args.self.now.options.now.format c.args.status bytes fault told
    (rw c.as_slice.ensures c.in_ok-beside-in-Some.ensures.told) (rw c.in-Some.is at c.requires.status)
    c.in_ok-report_of_fault-in-Some.ensures)

pub returns-in_ok-report_of_index-in-None-clause-made : goal.returns-in_ok-report_of_index-in-None-clause-made
returns-in_ok-report_of_index-in-None-clause-made g c =
    let run = c.args.self.now.run.now in
    let told = c.args.told.now in
    let unread = run.unread.items in
    let bytes = c.in_ok-report_of_index-in-None.field-0.items in
    let made = c.in_ok-report_of_index-in-None.ensures in
    let allows = IsChosenBy (option_map (λ f. string_bytes f.promise.0) run.choices.filter)
    (option_map (λ r. r.promise.0) run.choices.rule) in
    rw c.in-None.is
    (of_an_index allows run.settings run.tree unread c.args.self.now.options.now.format c.args.status bytes told
    made.0 made.1 made.2)
