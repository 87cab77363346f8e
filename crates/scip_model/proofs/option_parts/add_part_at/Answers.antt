use Rattle.std.proofs.Common.{◌∙◌, sym, subst, Option}
use Rattle.std.proofs.lemmas.Result.{on_ok_weaker}
use Rattle.proto_visibility.specs.declared.lookup.Entity.{Entity}
use Rattle.scip_model.specs.Makers.{at_its_entity, at_its_part}
use Rattle.scip_model.specs.Tables.Listing.{is_shown}
use Rattle.scip_model.specs.Tables.Plans.{AreAdded}
use Rattle.scip_model.proofs.PlanLemmas.{some_if}
use Rattle.scip_model.proofs.option_parts.add_part_at.Goals as goal

pub is_shown-requires-clause-nameable : goal.is_shown-requires-clause-nameable
is_shown-requires-clause-nameable c =
    let has = c.requires.declared in
    (has.1.full_name, c.requires.nameable c.in-Some.part c.in-Some.is has.0 has.1 has.2)

pub add_entity_at-requires-clause-nameable : goal.add_entity_at-requires-clause-nameable
add_entity_at-requires-clause-nameable c = c.requires.nameable c.in-Some.part c.in-Some.is

pub returns-then-is_shown-clause-added : goal.returns-then-is_shown-clause-added
returns-then-is_shown-clause-added c =
    let maker = c.args.maker.now in
    let span = c.args.span in
    let part = c.in-Some.part in
    let texts = c.add_entity_at.new.texts in
    let old = c.args.plan.now.list.items in
    let new = c.add_entity_at.new.plan.list.items in
    on_ok_weaker c.add_entity_at.result
    (λ added facts declared has around.
    let name = declared.full_name in
    subst (λ (its : Option Entity). AreAdded around texts old new (at_its_part maker name span its)) (sym c.in-Some.is)
    (some_if around (is_shown maker.choices.now part) texts old new (at_its_entity maker name span part)
    (sym c.is_shown.ensures ∙ c.if-is_shown.true) (added facts declared has around)))
    c.add_entity_at.ensures.added
