use Rattle.std.proofs.Common.{◌∙◌, sym, ap, List, [], ◌∷◌, ◌++◌, ◌-◌, append_assoc}
use Rattle.std.specs.Prelude.{Some}
use Rattle.scip_pages.specs.declared.runs.Run.{Run}
use Rattle.scip_pages.specs.Runs.{marks_of, runs_of}
use Rattle.scip_pages.proofs.RunLemmas.{marked_once_runs}
use Rattle.scip_pages.proofs.runs.marked_once.Goals as goal

pub returns : goal.returns
returns c =
    let s = c.args.span in
    let len = c.args.len in
    let start : List Run = runs_of (marks_of [] s.start) in
    let one : Run = record { len = s.end - s.start; occurrence = Some s.occurrence } in
    let end : List Run = runs_of (marks_of [] (len - s.end)) in
    c.in_ok-push_unmarked.ensures
    ∙ ap (λ (l : List Run). l ++ end)
    (c.in_ok-push.ensures.items ∙ ap (λ (l : List Run). l ++ one ∷ []) c.in_ok-runs.ensures)
    ∙ append_assoc start (one ∷ []) end
    ∙ sym (marked_once_runs s len c.requires.some c.requires.within)
