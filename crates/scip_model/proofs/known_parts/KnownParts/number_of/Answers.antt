use Rattle.std.proofs.Common.{◌∙◌, sym, subst, List, Option}
use Rattle.std.specs.List.{Contains}
use Rattle.std.proofs.lemmas.Option.{IfSome_then}
use Rattle.basics.proofs.FirstLemmas.{contained}
use Rattle.scip_model.specs.declared.known_parts.KnownPart.{KnownPart}
use Rattle.scip_model.proofs.known_parts.KnownParts.number_of.Goals as goal

pub returns-in-Some : goal.returns-in-Some
returns-in-Some c =
    let slots = c.as_slice.result.now in
    let there = contained slots c.slot_of-slot.result c.in-Some.found (sym c.slot_at.ensures ∙ c.in-Some.is) in
    IfSome_then c.number_in.result c.number_in.ensures
    (λ number is. subst (λ (o : Option KnownPart). Contains c.args.self.now.slots.items o) is
    (subst (λ (its : List (Option KnownPart)). Contains its c.in-Some.found) c.as_slice.ensures.value there))
