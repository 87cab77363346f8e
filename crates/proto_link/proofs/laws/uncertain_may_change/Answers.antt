use Rattle.proto_link.proofs.MayChangeLemmas.{may_change}
use Rattle.proto_link.proofs.laws.uncertain_may_change.Goals as goal

pub returns : goal.returns
returns c = λ files origins uncertain is target its.
    may_change files origins c.scopes_are_known.ensures.declarations c.scopes_are_known.ensures.uses uncertain is target its
