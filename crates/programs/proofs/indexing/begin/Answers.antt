use Rattle.std.proofs.Common.{◌∙◌, ap, map, subst, ℕ, false, List}
use Rattle.std.specs.String.{string_bytes}
use Rattle.std.proofs.lemmas.Result.{err_from_is_err_and}
use Rattle.source_files.specs.Places.{IsAsked}
use Rattle.programs.specs.Placing.{MayNotBegin, place}
use Rattle.programs.specs.Placing.MayNotBegin.{report_at_index, report_at_source}
use Rattle.programs.proofs.indexing.begin.Goals as goal

pub returns-in_err-see_two-clause-stops : goal.returns-in_err-see_two-clause-stops
returns-in_err-see_two-clause-stops g c =
    let request = c.args.request.now in
    let places = c.args.places.now in
    let tree = c.args.tree.now in
    let at = place g.P.OutPlace g.P.Part.Sink places.file places.file in
    let report = place g.Q.OutPlace g.Q.Part.Sink places.report places.report in
    let Spares : List (List ℕ) → Type 0 = λ roots. IsAsked (at.same at.before) roots tree false in
    let p = err_from_is_err_and c.from_residual-in_err-see_two.result c.from_residual-in_err-see_two.ensures.1 in
    let spared = subst Spares (ap (λ folders. map string_bytes folders) c.deref.ensures.value ∙ c.in_ok-folders.ensures)
    (subst (IsAsked (at.same at.before) (map string_bytes c.deref.result.now) tree) c.if-branch.false
    c.in_ok-is_read_from.ensures) in
    let stops : MayNotBegin at report request tree
    c.in_err-see_two.field-0.0 = report_at_index spared c.in_err-see_two.ensures.stops in
    rw (p.1, p.2) stops

pub returns-in_err-see_report-clause-stops : goal.returns-in_err-see_report-clause-stops
returns-in_err-see_report-clause-stops g c =
    let request = c.args.request.now in
    let places = c.args.places.now in
    let tree = c.args.tree.now in
    let at = place g.P.OutPlace g.P.Part.Sink places.file places.file in
    let report = place g.Q.OutPlace g.Q.Part.Sink places.report places.report in
    let Spares : List (List ℕ) → Type 0 = λ roots. IsAsked (at.same at.before) roots tree false in
    let p = err_from_is_err_and c.from_residual-in_err-see_report.result c.from_residual-in_err-see_report.ensures.1 in
    let spared = subst Spares (ap (λ folders. map string_bytes folders) c.deref.ensures.value ∙ c.in_ok-folders.ensures)
    (subst (IsAsked (at.same at.before) (map string_bytes c.deref.result.now) tree) c.if-branch.false
    c.in_ok-is_read_from.ensures) in
    let stops : MayNotBegin at report request tree
    c.in_err-see_report.field-0.0 =
    report_at_source spared c.in_ok-see_two.ensures.two c.in_err-see_report.ensures.stops in
    rw (p.1, p.2) stops

pub returns-clause-apart : goal.returns-clause-apart
returns-clause-apart g c =
    let same = g.P.OutPlace.same c.args.places.now.file in
    let tree = c.args.tree.now in
    let Spares : List (List ℕ) → Type 0 = λ roots. IsAsked same roots tree false in
    record {
      index = subst Spares (ap (λ folders. map string_bytes folders) c.deref.ensures.value ∙ c.in_ok-folders.ensures)
          (subst (IsAsked same (map string_bytes c.deref.result.now) tree) c.if-branch.false
          c.in_ok-is_read_from.ensures);
      reported = c.in_ok-see_report.ensures.apart;
      two = c.in_ok-see_two.ensures.two;
    }
