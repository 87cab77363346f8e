use Rattle.std.proofs.Common.{append_assoc}
use Rattle.std.proofs.lemmas.Result.{IfOk-weaker}
use Rattle.protoscip.proofs.lines.path_with.Goals as goal

pub returns : goal.returns
returns c = IfOk-weaker c.format.result _ _ (λ line h. simp append_assoc h) c.format.ensures.ok
