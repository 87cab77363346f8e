use Rattle.std.proofs.Common.{ap}
use Rattle.option_link.specs.declared.place.DeclaredPlace.{DeclaredPlace}
use Rattle.option_link.proofs.LoopLemmas.{never_so}
use Rattle.option_link.proofs.PlaceLemmas.{same_by}
use Rattle.option_link.proofs.place.is_same.Goals as goal

pub returns-then-one-other : goal.returns-then-one-other
returns-then-one-other c = never_so _ (λ same. c.if-one-other.true (ap (λ (p : DeclaredPlace). p.file) same))

pub returns : goal.returns
returns c = same_by c.args.one c.args.other c.if-one-other.false
