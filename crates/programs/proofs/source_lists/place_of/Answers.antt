use Rattle.std.proofs.Common.{append_assoc}
use Rattle.std.proofs.lemmas.Result.{IfOk-weaker}
use Rattle.programs.proofs.source_lists.place_of.Goals as goal

pub returns-in-Some : goal.returns-in-Some
returns-in-Some c =
    rw c.in-Some.is (IfOk-weaker c.format.result _ _ (λ place h. simp append_assoc h) c.format.ensures.ok)
