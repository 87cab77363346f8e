use Rattle.option_link.specs.Found.{IsMemberHere, IsMemberNamed}
use Rattle.option_link.specs.declared.place.DeclaredPlace.{DeclaredPlace}
use Rattle.option_link.proofs.LoopLemmas.{option_as}
use Rattle.option_link.proofs.OwnFieldLemmas.{named_here}
use Rattle.option_link.proofs.fields.KnownFiles.member_named.Goals as goal

pub returns-in-Some : goal.returns-in-Some
returns-in-Some c =
    let self = c.args.self in
    let files = self.names.now in
    let known = self.known.now in
    let file = c.args.file in
    let name = c.args.name.now in
    let braces = c.args.in_braces in
    let place = c.in-Some.place in
    let is = c.in-Some.ensures in
    option_as c.member_at.result ((field : DeclaredPlace) → IsMemberHere files known place braces field → ⊥)
    ((field : DeclaredPlace) → IsMemberNamed files known file name braces field → ⊥)
    (IsMemberHere files known place braces) (IsMemberNamed files known file name braces)
    (λ none field x. none field (named_here files known file name braces place is field x))
    (λ field here. record { place = place; only = is; here = here }) c.member_at.ensures

pub returns-in-None : goal.returns-in-None
returns-in-None c = λ field x. c.in-None.ensures x.place x.only
