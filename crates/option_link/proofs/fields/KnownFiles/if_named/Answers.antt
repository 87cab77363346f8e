use Rattle.std.proofs.Common.{Bool, sym, subst}
use Rattle.std.proofs.lemmas.Option.{IfSome_then}
use Rattle.option_link.specs.Found.{IsMemberOf}
use Rattle.option_link.specs.declared.place.DeclaredPlace.{DeclaredPlace}
use Rattle.option_link.proofs.KnownFieldLemmas.{both_braces}
use Rattle.option_link.proofs.LoopLemmas.{some_of}
use Rattle.option_link.proofs.fields.KnownFiles.if_named.Goals as goal

pub returns-in-Some : goal.returns-in-Some
returns-in-Some c =
    let self = c.args.self in
    let files = self.names.now in
    let known = self.known.now in
    let word = c.args.word.now in
    let field = c.args.field in
    let inside = some_of _ _ _ c.in-Some.ensures.1 c.in_ok-found.ensures in
    IfSome_then c.if_no_group.result c.if_no_group.ensures (λ one its.
    subst (λ (message : DeclaredPlace). (braces : Bool) → IsMemberOf files known message word braces field)
    (sym its.0)
    (both_braces files known self.in_order c.args.message word field its.1 its.2 its.3 inside))
