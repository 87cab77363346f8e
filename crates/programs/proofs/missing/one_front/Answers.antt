use Rattle.std.proofs.Common.{append_assoc}
use Rattle.std.proofs.lemmas.Bool.{ne_eqb}
use Rattle.std.proofs.lemmas.Result.{IfOk-weaker}
use Rattle.programs.proofs.missing.one_front.Goals as goal

pub returns-else-count-eq1 : goal.returns-else-count-eq1
returns-else-count-eq1 c =
    let several = ne_eqb c.args.count 1 c.if-count-eq1.false in
    IfOk-weaker c.format-else-count-eq1.result _ _ (λ text h. simp (append_assoc, several) h)
    c.format-else-count-eq1.ensures.ok
