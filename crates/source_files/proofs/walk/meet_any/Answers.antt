use Rattle.std.proofs.Common.{true, sym, subst}
use Rattle.source_files.specs.WalkSteps.{Meets, is_new}
use Rattle.source_files.proofs.walk.meet_any.Goals as goal

pub returns-in-None : goal.returns-in-None
returns-in-None c =
    let met = c.args.met.now.items in
    subst (λ identity. Meets met identity true met) (sym c.in-None.is) (is_new (λ known. known))
