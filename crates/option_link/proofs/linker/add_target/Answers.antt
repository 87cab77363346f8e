use Rattle.std.proofs.Common.{List, Option, refl, sym, subst}
use Rattle.proto_visibility.specs.declared.lookup.Entity.{Entity}
use Rattle.option_link.specs.Found.{AddsParts}
use Rattle.option_link.proofs.linker.add_target.Goals as goal

pub returns-in_ok-push-in-Some : goal.returns-in_ok-push-in-Some
returns-in_ok-push-in-Some c =
    subst (λ (parts : Option (List Entity)). AddsParts c.args.number parts c.args.targets.now.items
    c.push.new.self.items) (sym c.in-Some.is) c.in_ok-push-in-Some.ensures.items

pub returns-in-None : goal.returns-in-None
returns-in-None c =
    subst (λ (parts : Option (List Entity)). AddsParts c.args.number parts c.args.targets.now.items
    c.args.targets.now.items) (sym c.in-None.is) refl
