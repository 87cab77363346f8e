use Rattle.std.proofs.Common.{refl, [], length, map}
use Rattle.std.proofs.lemmas.Option.{slice_get_read}
use Rattle.scip_model.specs.Makers.{IsItsOptionGap, IsItsUncertainName, OccursByItsOption}
use Rattle.scip_model.specs.Tables.Plans.{occurrence_of}
use Rattle.scip_model.proofs.ExternalSymbolLemmas.{adds-all, adds-more}
use Rattle.scip_model.proofs.OptionGapLemmas.{all-gaps, all-uncertain}
use Rattle.scip_model.proofs.OptionOccurLemmas.{all-options, front-none, planned-all, planned-more}
use Rattle.scip_model.proofs.PlanLemmas.{grown_same, grown_then, own_then}
use Rattle.scip_model.proofs.option_occurrences.option_occurrences.Goals as goal

pub loop-option-init : goal.loop-option-init
loop-option-init c =
    let maker = c.args.maker.now in
    let known = c.args.options.now.known in
    let options = c.options_of-its_options.result.now in
    record {
      grown = grown_same c.args.texts.now;
      known = λ its there. absurd (c.in_ok-known.ensures its there);
      added = λ around later grown.
          rw c.in_ok-list.ensures.items (front-none (OccursByItsOption maker known) options []);
      gaps = rw c.requires.empty (front-none (IsItsOptionGap maker known) options []);
      uncertain = rw c.requires.certain (front-none (IsItsUncertainName maker known) options []);
    }

pub add_option-requires-clause-own : goal.add_option-requires-clause-own
add_option-requires-clause-own c =
    own_then c.args.maker.now.package.now.files c.args.maker.now.package.now.ids c.args.maker.now.source c.args.texts.now
    c.loop-option.texts c.requires.own c.loop-option.invariant.grown

pub loop-option-preserved : goal.loop-option-preserved
loop-option-preserved c =
    let maker = c.args.maker.now in
    let known = c.args.options.now.known in
    let options = c.options_of-its_options.result.now in
    let index = c.loop-option.option-index in
    let option = c.option-item.result in
    let there = slice_get_read options (length options) index option refl c.loop-option-test.true c.option-item.is in
    record {
      grown = grown_then c.args.texts.now c.loop-option.texts c.add_option.new.texts c.loop-option.invariant.grown
          c.in_ok-add_option.ensures.grown;
      known = c.in_ok-add_option.ensures.known;
      added = λ around.
          planned-more (OccursByItsOption maker known) options index option c.loop-option.texts c.add_option.new.texts
          around [] c.loop-option.plan.list.items c.add_option.new.plan.list.items there c.in_ok-add_option.ensures.grown
          (c.loop-option.invariant.added around) (c.in_ok-add_option.ensures.added around);
      gaps = adds-more (IsItsOptionGap maker known) options index option [] c.loop-option.told.gaps.items
          c.add_option.new.told.gaps.items there c.loop-option.invariant.gaps c.in_ok-add_option.ensures.gaps;
      uncertain = adds-more (IsItsUncertainName maker known) options index option [] c.loop-option.told.uncertain.items
          c.add_option.new.told.uncertain.items there c.loop-option.invariant.uncertain
          c.in_ok-add_option.ensures.uncertain;
    }

pub returns-clause-planned : goal.returns-clause-planned
returns-clause-planned c = λ around later grown.
    let maker = c.args.maker.now in
    let known = c.args.options.now.known in
    let options = c.options_of-its_options.result.now in
    all-options maker.package.now.files known maker.choices.now maker.package.now.ids maker.encoding maker.source
    maker.text.now options c.options_of-its_options.ensures []
    (map (occurrence_of around later) c.loop-option.plan.list.items)
    (planned-all (OccursByItsOption maker known) options c.loop-option.option-index c.loop-option.texts around []
    c.loop-option.plan.list.items c.loop-option-test.false (c.loop-option.invariant.added around) later grown)

pub returns-clause-gaps : goal.returns-clause-gaps
returns-clause-gaps c =
    let maker = c.args.maker.now in
    let known = c.args.options.now.known in
    let options = c.options_of-its_options.result.now in
    all-gaps maker.package.now.files known maker.source maker.text.now options c.options_of-its_options.ensures
    c.loop-option.told.gaps.items
    (adds-all (IsItsOptionGap maker known) options c.loop-option.option-index [] c.loop-option.told.gaps.items
    c.loop-option-test.false c.loop-option.invariant.gaps)

pub returns-clause-uncertain : goal.returns-clause-uncertain
returns-clause-uncertain c =
    let maker = c.args.maker.now in
    let known = c.args.options.now.known in
    let options = c.options_of-its_options.result.now in
    all-uncertain maker.package.now.files known maker.source maker.text.now options c.options_of-its_options.ensures
    c.loop-option.told.uncertain.items
    (adds-all (IsItsUncertainName maker known) options c.loop-option.option-index [] c.loop-option.told.uncertain.items
    c.loop-option-test.false c.loop-option.invariant.uncertain)
