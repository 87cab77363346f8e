use Rattle.std.proofs.Common.{subst, IfSome, Option, Some, ℕ}
use Rattle.std.specs.List.{Contains}
use Rattle.scip_model.specs.Tables.KnownParts.{known_part}
use Rattle.scip_model.proofs.KnownPartLemmas.{known_more}
use Rattle.scip_model.proofs.PlanLemmas.{grown_same}
use Rattle.scip_model.proofs.option_parts.part_number.Goals as goal

pub returns-in-Some-clause-grown : goal.returns-in-Some-clause-grown
returns-in-Some-clause-grown c = grown_same c.args.texts.now

pub returns-in-Some-clause-number : goal.returns-in-Some-clause-number
returns-in-Some-clause-number c =
    c.requires.known (known_part c.args.place c.args.part c.in-Some.number)
    (subst (λ (o : Option ℕ). IfSome o (λ number. Contains c.args.known.now.slots.items
    (Some (known_part c.args.place c.args.part number)))) c.in-Some.is c.number_of.ensures)

pub returns-clause-known : goal.returns-clause-known
returns-clause-known c =
    known_more c.args.maker.now c.args.texts.now c.new_number.new.texts c.args.known.now c.keep.new.self c.args.place
    c.args.part c.in_ok-number.number c.requires.known c.in_ok-number.ensures.grown c.in_ok-number.ensures.number
    c.keep.ensures
