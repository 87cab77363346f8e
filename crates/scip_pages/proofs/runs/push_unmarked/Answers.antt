use Rattle.std.proofs.Common.{◌∙◌, sym, ap, ℕ, List, [], ◌++◌, append-nil}
use Rattle.scip_pages.specs.declared.runs.Run.{Run}
use Rattle.scip_pages.specs.Runs.{marks_of, runs_of}
use Rattle.scip_pages.proofs.RunLemmas.{unmarked_runs}
use Rattle.scip_pages.proofs.runs.push_unmarked.Goals as goal

pub returns-then-len-eq0 : goal.returns-then-len-eq0
returns-then-len-eq0 c =
    let before : List Run = c.args.runs.now.items in
    sym (ap (λ (n : ℕ). before ++ runs_of (marks_of [] n)) c.if-len-eq0.true ∙ append-nil before)

pub returns : goal.returns
returns c =
    let before : List Run = c.args.runs.now.items in
    c.in_ok-push.ensures.items
    ∙ ap (λ (l : List Run). before ++ l) (sym (unmarked_runs c.args.len c.if-len-eq0.false))
