use Rattle.std.proofs.Common.{Some, true, refl, sym, subst}
use Rattle.std.specs.List.{Contains}
use Rattle.std.proofs.lemmas.Bool.{false≢true}
use Rattle.source_files.specs.WalkSteps.{Meets, is_met, is_new}
use Rattle.source_files.proofs.walk.meet.Goals as goal

pub returns-then-is_met : goal.returns-then-is_met
returns-then-is_met c =
    is_met (subst (λ l. Contains l c.args.identity) c.deref.ensures.value (c.if-is_met.ensures.0 refl))

pub returns : goal.returns
returns c =
    let identity = c.args.identity in
    subst (Meets c.args.met.now.items (Some identity) true) (sym c.in_ok-push.ensures.items)
    (is_new (λ met. false≢true (c.if-is_met.ensures.1 (subst (λ l. Contains l identity) (sym c.deref.ensures.value)
    met))))
