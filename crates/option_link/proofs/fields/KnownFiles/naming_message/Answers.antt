use Rattle.std.proofs.Common.{Bool, List, ℕ, IfOk, IfSome, subst}
use Rattle.option_link.specs.Found.{IsMemberOf}
use Rattle.option_link.specs.declared.place.DeclaredPlace.{DeclaredPlace}
use Rattle.option_link.proofs.fields.KnownFiles.naming_message.Goals as goal

pub if_named-requires : goal.if_named-requires
if_named-requires c =
    (c.in-Some.ensures.declaration, c.in-Some.ensures.stands)

pub returns-in-Some : goal.returns-in-Some
returns-in-Some c =
    let self = c.args.self in
    subst (λ (word : List ℕ). IfOk c.if_named.result (λ found. IfSome found (λ (message : DeclaredPlace). (braces : Bool)
    → IsMemberOf self.names.now self.known.now message word braces c.args.field))) c.simple_name.ensures
    c.if_named.ensures
