use Rattle.std.proofs.Common.{subst}
use Rattle.option_link.specs.KnownFields.{IsKnownField}
use Rattle.option_link.specs.Linked.{LinkedOptions}
use Rattle.option_link.proofs.often_used.OftenUsed.field_of.Goals as goal

pub returns-in-Some : goal.returns-in-Some
returns-in-Some c =
    let its = c.in-Some.ensures in (
      subst (λ (o : LinkedOptions). IsKnownField o.files o.known c.in-Some.one) c.self.view_is
          (c.self.invariant c.in-Some.one its.0),
      its.1,
    )
