use Rattle.std.proofs.Common.{◌≡◌, ◌∙◌, ap, sym, refl, get_or, List, Option, Some, ◌++◌, map}
use Rattle.std.specs.List.{slice_get}
use Rattle.std.proofs.lemmas.Option.{slice_get-get_or}
use Rattle.proto_lex.specs.declared.span.Span.{Span}
use Rattle.proto_visibility.specs.declared.lookup.Entity.{Entity}
use Rattle.scip_model.specs.Makers.{at_its_name, at_its_part}
use Rattle.scip_model.specs.Tables.Listing.{each_from}
use Rattle.scip_model.specs.Tables.Plans.{occurrence_of}
use Rattle.scip_model.proofs.ListingLemmas.{each_added, each_done}
use Rattle.scip_model.proofs.PlanLemmas.{grown_same, grown_then, own_then}
use Rattle.scip_model.proofs.option_occurrences.add_name.Goals as goal

pub add_part_at-requires-clause-own : goal.add_part_at-requires-clause-own
add_part_at-requires-clause-own c =
    own_then c.args.maker.now.package.now.files c.args.maker.now.package.now.ids c.args.maker.now.source c.args.texts.now
    c.loop-index.texts c.requires.own c.loop-index.invariant.grown

pub add_part_at-requires-clause-nameable : goal.add_part_at-requires-clause-nameable
add_part_at-requires-clause-nameable c = λ entity is facts declared has.
    c.requires.nameable facts declared has c.loop-index.index entity (sym c.part_at-part.ensures ∙ is)

pub loop-index-init : goal.loop-index-init
loop-index-init c = record {
  grown = grown_same c.args.texts.now;
  known = c.requires.known;
  added = λ facts declared has around later more. refl;
}

pub loop-index-preserved : goal.loop-index-preserved
loop-index-preserved c =
    let maker = c.args.maker.now in
    let parts = c.args.parts.now in
    let xs = c.as_slice-span-items.result.now in
    let index = c.loop-index.index in
    let nowhere : Span = record { start = 0; end = 0 } in
    let span : Span = get_or xs index nowhere in
    let there : slice_get xs index ≡ Some span = slice_get-get_or xs index nowhere c.loop-index-test.true in
    record {
      grown = grown_then c.args.texts.now c.loop-index.texts c.add_part_at.new.texts c.loop-index.invariant.grown
          c.in_ok-add_part_at.ensures.grown;
      known = c.in_ok-add_part_at.ensures.known;
      added = λ facts declared has around later more.
          let gives = at_its_name maker declared.full_name parts in
          let old = map (occurrence_of around later) c.loop-index.plan.list.items in
          each_added gives xs index span old (map (occurrence_of around later) c.add_part_at.new.plan.list.items)
          (map (occurrence_of around later) c.args.plan.now.list.items ++ each_from gives 0 xs) there
          (c.in_ok-add_part_at.ensures.added facts declared has around later more
          ∙ ap (λ (part : Option Entity). old ++ at_its_part maker declared.full_name span part) c.part_at-part.ensures)
          (c.loop-index.invariant.added facts declared has around later
          (grown_then c.loop-index.texts c.add_part_at.new.texts later c.in_ok-add_part_at.ensures.grown more));
    }

pub returns-clause-added : goal.returns-clause-added
returns-clause-added c = λ facts declared has around later grown.
    let xs = c.as_slice-span-items.result.now in
    let gives = at_its_name c.args.maker.now declared.full_name c.args.parts.now in
    let old = map (occurrence_of around later) c.args.plan.now.list.items in
    each_done gives xs c.loop-index.index (map (occurrence_of around later) c.loop-index.plan.list.items)
    (old ++ each_from gives 0 xs) c.loop-index-test.false
    (c.loop-index.invariant.added facts declared has around later grown)
    ∙ ap (λ (spans : List Span). old ++ each_from gives 0 spans) c.as_slice-span-items.ensures
