use Rattle.std.proofs.Common.{◌∙◌, ap, not, refl, ℕ, List, Err, subst, sym}
use Rattle.std.proofs.lemmas.Result.{err_from_is_err_and}
use Rattle.std.specs.Option.{option_map}
use Rattle.std.specs.String.{string_bytes}
use Rattle.fault_reports.specs.declared.report.ReportFormat.{ReportFormat}
use Rattle.programs.specs.Choices.{IsChosenBy}
use Rattle.programs.specs.Placing.{place}
use Rattle.programs.specs.Reporting.{IsReport, due_status, ran_of, unmade}
use Rattle.programs.proofs.ReportingLemmas.{goes_asked, weaker}
use Rattle.programs.proofs.reporting.report_run.Goals as goal

pub returns-in_err-bytes : goal.returns-in_err-bytes
returns-in_err-bytes g c =
    let run = c.args.reporter.now.run.now in
    let options = c.args.reporter.now.options.now in
    let ran = ran_of c.args.told.now c.args.fault in
    let unread = run.unread.items in
    let allows = IsChosenBy (option_map (λ f. string_bytes f.promise.0) run.choices.filter)
    (option_map (λ r. r.promise.0) run.choices.rule) in
    let Is : ReportFormat → List ℕ → Type 0 = λ format. IsReport allows run.settings run.tree unread format ran
    (due_status ran c.limit_broken-broken.result) in
    let at = place g.Q.OutPlace g.Q.Part.Sink c.args.at.now c.args.at.now in
    let p = err_from_is_err_and c.from_residual.result c.from_residual.ensures.1 in
    rw (p.1, p.2) (
      c.limit_broken-broken.result,
      c.limit_broken-broken.ensures,
      goes_asked string_bytes at options Is run.workers options.path (Err c.in_err-bytes.field-0.0)
          (c.is_none.ensures ∙ ap not c.if-is_none.false) (unmade c.in_err-bytes.ensures.stops refl),
    )

pub returns : goal.returns
returns g c =
    let run = c.args.reporter.now.run.now in
    let options = c.args.reporter.now.options.now in
    let ran = ran_of c.args.told.now c.args.fault in
    let unread = run.unread.items in
    let allows = IsChosenBy (option_map (λ f. string_bytes f.promise.0) run.choices.filter)
    (option_map (λ r. r.promise.0) run.choices.rule) in
    let Is : ReportFormat → ℕ → List ℕ → Type 0 = λ format. IsReport allows run.settings run.tree unread format ran
    in
    let due = due_status ran c.limit_broken-broken.result in
    let at = place g.Q.OutPlace g.Q.Part.Sink c.args.at.now c.put_bytes.new.at in
    let bytes = c.as_slice.result.now in
    let format = options.format in
    let is : Is format due bytes = subst (λ (all : List ℕ). Is format due all) (sym c.as_slice.ensures.value)
    (subst (λ (status : ℕ). Is format status c.in_ok-bytes.bytes.items) c.due_status.ensures
    c.in_ok-bytes.ensures.made) in (
      c.limit_broken-broken.result,
      c.limit_broken-broken.ensures,
      goes_asked string_bytes at options (λ form. Is form due) run.workers options.path c.put_bytes.result
          (c.is_none.ensures ∙ ap not c.if-is_none.false)
          (weaker at (Is format due) bytes run.workers c.put_bytes.result is (c.put_bytes.ensures run.workers)),
    )
