use Rattle.std.proofs.Common.{◌≡◌, ◌∙◌, ◌<◌, ap, refl, subst, List, Some, None, ◌+◌, length, map, arith}
use Rattle.std.specs.List.{slice_get}
use Rattle.std.proofs.lemmas.Option.{slice_get_read}
use Rattle.proto_decl.specs.declared.uses.Component.{Component}
use Rattle.scip_model.specs.Named.{text_of, package_at}
use Rattle.scip_model.specs.Occurs.{definition_role}
use Rattle.scip_model.specs.Tables.Listing.{each_from, at_package}
use Rattle.scip_model.specs.Tables.Plans.{around_in, occurrence_of, own_texts}
use Rattle.scip_model.proofs.AroundLemmas.{none_before}
use Rattle.scip_model.proofs.ListingLemmas.{each_added, each_done}
use Rattle.scip_model.proofs.PlanLemmas.{planned_added, package_number}
use Rattle.scip_model.proofs.occurrences.package_occurrences.Goals as goal

pub loop-index-preserved : goal.loop-index-preserved
loop-index-preserved c = λ home later more.
    let maker = c.args.maker.now in
    let run = maker.package.now.ids.run in
    let facts = c.args.facts.now in
    let items = c.package_name-component-items.result.now in
    let index = c.loop-index.index in
    let component = c.component-item.result in
    let gives = at_package run maker.encoding maker.text.now facts in
    let there : slice_get items index ≡ Some component =
    slice_get_read items (length items) index component refl c.loop-index-test.true c.component-item.is in
    let within : index < length facts.package_name = subst (λ (cs : List Component). index < length cs)
    c.package_name-component-items.ensures c.loop-index-test.true in
    let around = around_in maker.encoding maker.text.now facts in
    let before = none_before around c.in_ok-number.number (omega (arith, within, c.in_ok-number.ensures.number)) in
    let added = planned_added around maker.encoding maker.text.now component.span definition_role
    (own_texts home run facts) c.loop-index.list.items c.push.new.self.items c.planned_over.result
    (text_of run (package_at facts (index + 1))) c.in_ok-number.number None c.in_ok-push.ensures.items
    c.planned_over.ensures (package_number home run facts index c.in_ok-number.number within
    c.in_ok-number.ensures.number) before
    later more in
    each_added gives items index component (map (occurrence_of around later) c.loop-index.list.items)
    (map (occurrence_of around later) c.push.new.self.items) (each_from gives 0 items) there added
    (c.loop-index.invariant home later more)

pub returns : goal.returns
returns c = λ home later more.
    let maker = c.args.maker.now in
    let facts = c.args.facts.now in
    let gives = at_package maker.package.now.ids.run maker.encoding maker.text.now facts in
    let items = c.package_name-component-items.result.now in
    let planned = map (occurrence_of (around_in maker.encoding maker.text.now facts) later) in
    each_done gives items c.loop-index.index (planned c.loop-index.list.items)
    (each_from gives 0 items) (omega (arith, c.loop-index-test.false)) (c.loop-index.invariant home later more)
    ∙ ap (λ (components : List Component). each_from gives 0 components) c.package_name-component-items.ensures
