use Rattle.std.proofs.Common.{Option, Some, None, refl, sym, subst}
use Rattle.option_link.specs.Found.{ArePartsOf}
use Rattle.option_link.specs.declared.place.DeclaredPlace.{DeclaredPlace}
use Rattle.option_link.proofs.LoopLemmas.{some_of}
use Rattle.option_link.proofs.linker.parts_of.Goals as goal

pub parts-requires : goal.parts-requires
parts-requires c = some_of _ _ _ c.in-Some.is c.requires

pub returns-in_ok-parts-in-Some : goal.returns-in_ok-parts-in-Some
returns-in_ok-parts-in-Some c =
    subst (λ (target : Option DeclaredPlace). ArePartsOf c.args.asked.files.names.now c.args.name.now c.args.behind
    target (Some c.in_ok-parts-in-Some.parts)) (sym c.in-Some.is) c.in_ok-parts-in-Some.ensures

pub returns-in-None : goal.returns-in-None
returns-in-None c =
    subst (λ (target : Option DeclaredPlace). ArePartsOf c.args.asked.files.names.now c.args.name.now c.args.behind
    target None) (sym c.in-None.is) refl
