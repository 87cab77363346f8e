use Rattle.std.proofs.Common.{◌≡◌, ◌∙◌, ap, refl, List, ℕ, Option, Some, ◌++◌, length, map}
use Rattle.std.specs.List.{slice_get}
use Rattle.std.proofs.lemmas.Option.{slice_get_read}
use Rattle.proto_visibility.specs.declared.lookup.Entity.{Entity}
use Rattle.scip_model.specs.Tables.Listing.{each_from, at_part, at_component}
use Rattle.scip_model.specs.Tables.Plans.{occurrence_of}
use Rattle.scip_model.proofs.ListingLemmas.{each_added}
use Rattle.scip_model.proofs.PlanLemmas.{grown_then, own_then}
use Rattle.scip_model.proofs.use_occurrences.add_target.Goals as goal

pub add_part-requires-clause-own : goal.add_part-requires-clause-own
add_part-requires-clause-own c =
    own_then c.args.maker.now.package.now.files c.args.maker.now.package.now.ids c.args.maker.now.source c.args.texts.now
    c.loop-index.texts c.requires.own c.loop-index.invariant.grown

pub loop-index-preserved : goal.loop-index-preserved
loop-index-preserved c =
    let ids = c.args.maker.now.package.now.ids in
    let encoding = c.args.maker.now.encoding in
    let text = c.args.maker.now.text.now in
    let files = c.args.maker.now.package.now.files in
    let chosen = c.args.maker.now.choices.now in
    let target = c.args.target.now in
    let xs = c.as_slice-component-items.result.now in
    let index = c.loop-index.index in
    let component = c.component-item.result in
    let gives = at_component ids encoding text files chosen target in
    let there : slice_get xs index ≡ Some component =
    slice_get_read xs (length xs) index component refl c.loop-index-test.true c.component-item.is in
    record {
      grown = grown_then c.args.texts.now c.loop-index.texts c.add_part.new.texts c.loop-index.invariant.grown
          c.in_ok-add_part.ensures.grown;
      added = λ around later more.
          let old = map (occurrence_of around later) c.loop-index.list.items in
          let added = c.in_ok-add_part.ensures.added around later more
          ∙ (ap (λ (name : List ℕ). old
          ++ at_part ids encoding text files chosen name component.span c.part_of-part.result) c.as_str-name.ensures
          ∙ ap (λ (part : Option Entity). old
          ++ at_part ids encoding text files chosen target.name component.span part) c.part_of-part.ensures) in
          each_added gives xs index component old (map (occurrence_of around later) c.add_part.new.list.items)
          (map (occurrence_of around later) c.args.list.now.items ++ each_from gives 0 xs) there added
          (c.loop-index.invariant.added around later
          (grown_then c.loop-index.texts c.add_part.new.texts later c.in_ok-add_part.ensures.grown more));
    }
