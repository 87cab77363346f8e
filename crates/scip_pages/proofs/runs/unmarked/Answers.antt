use Rattle.std.proofs.Common.{◌∙◌, sym}
use Rattle.std.proofs.lemmas.Result.{IfOk-weaker}
use Rattle.scip_pages.proofs.RunLemmas.{unmarked_runs}
use Rattle.scip_pages.proofs.runs.unmarked.Goals as goal

pub returns-else-len-eq0 : goal.returns-else-len-eq0
returns-else-len-eq0 c =
    IfOk-weaker c.from_slice.result _ _ (λ runs h. h ∙ sym (unmarked_runs c.args.len c.if-len-eq0.false))
    c.from_slice.ensures.items
