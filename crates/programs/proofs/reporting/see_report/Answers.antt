use Rattle.std.proofs.Common.{◌∙◌, ap, map, subst, ℕ, false, List}
use Rattle.std.specs.String.{string_bytes}
use Rattle.source_files.specs.Places.{IsAsked}
use Rattle.programs.specs.Folders.{roots_in}
use Rattle.programs.proofs.ReportingLemmas.{any_if_some}
use Rattle.programs.proofs.reporting.see_report.Goals as goal

pub returns-clause-apart : goal.returns-clause-apart
returns-clause-apart g c =
    let same = g.Q.OutPlace.same c.args.at.now in
    let tree = c.args.tree.now in
    let Spares : List (List ℕ) → Type 0 = λ roots. IsAsked same roots tree false in
    any_if_some (Spares (roots_in c.args.options.now)) c.args.options.now.report.path
    (subst Spares (ap (λ folders. map string_bytes folders) c.deref.ensures.value ∙ c.in_ok-folders.ensures)
    (subst (IsAsked same (map string_bytes c.deref.result.now) tree) c.if-branch.false c.in_ok-is_read_from.ensures))
