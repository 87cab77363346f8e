use Rattle.scip_model.specs.Packages.{package_of_part}
use Rattle.scip_model.specs.Tables.Listing.{entity_of}
use Rattle.scip_model.proofs.PlanLemmas.{entity_added}
use Rattle.scip_model.proofs.option_parts.add_entity_at.Goals as goal

pub returns-clause-added : goal.returns-clause-added
returns-clause-added c = λ facts declared has around.
    let maker = c.args.maker.now in
    let files = maker.package.now.files in
    let ids = maker.package.now.ids in
    entity_added around maker.encoding maker.text.now (package_of_part files ids c.args.part) c.args.span
    (entity_of files ids declared.full_name c.args.part) c.part_number.new.texts c.args.plan.now.list.items
    c.push.new.self.items c.planned_over.result c.in_ok-number.number c.in_ok-push.ensures.items c.planned_over.ensures
    (c.in_ok-number.ensures.number facts declared has)
