use Rattle.std.proofs.Common.{◌≡◌, ◌∙◌, refl, subst, sym, List, ℕ}
use Rattle.programs.specs.Placing.{place}
use Rattle.programs.specs.StartReports.{at_out, goes, lacking, report_of_start, suspected, unasked}
use Rattle.programs.proofs.ReportingLemmas.{weaker}
use Rattle.programs.proofs.StartReportLemmas.{left_untried}
use Rattle.programs.proofs.start_reports.put_start_report.Goals as goal

pub returns-in-None : goal.returns-in-None
returns-in-None g c = unasked c.in-None.is refl

pub returns-then-is_out : goal.returns-then-is_out
returns-then-is_out g c = at_out c.if-is_out.true refl

pub returns-then-may_be_source : goal.returns-then-may_be_source
returns-then-may_be_source g c =
    suspected (subst (g.Q.OutPlace.suspects c.args.at.now) c.if-may_be_source.true c.may_be_source.ensures.told) refl

pub returns-in-Err : goal.returns-in-Err
returns-in-Err g c = lacking refl

pub returns-then-is_tried : goal.returns-then-is_tried
returns-then-is_tried g c =
    let at = place g.Q.OutPlace g.Q.Part.Sink c.args.at.now c.put_bytes-reported.new.at in
    let fault = c.args.fault in
    let reported = c.put_bytes-reported.result in
    let bytes = c.as_slice.result.now in
    let Is : List ℕ → Type 0 = λ all. all ≡ report_of_start c.args.options.now.format fault in
    let is : Is bytes = c.as_slice.ensures.value ∙ c.in-Ok.ensures in
    goes reported c.if-is_out.false
    (subst (g.Q.OutPlace.suspects c.args.at.now) c.if-may_be_source.false c.may_be_source.ensures.told)
    (weaker at Is bytes 0 reported is (c.put_bytes-reported.ensures 0)) (sym c.is_tried.ensures ∙ c.if-is_tried.true)

pub returns : goal.returns
returns g c =
    let at = place g.Q.OutPlace g.Q.Part.Sink c.args.at.now c.put_bytes-reported.new.at in
    let bytes = c.as_slice.result.now in
    lacking (left_untried at (λ all. all ≡ bytes) 0 c.put_bytes-reported.result (c.put_bytes-reported.ensures 0)
    (sym c.is_tried.ensures ∙ c.if-is_tried.false))
