use Rattle.std.proofs.Common.{◌↔◌, sym, subst, refl, List, length, map}
use Rattle.std.specs.List.{Contains}
use Rattle.std.proofs.lemmas.Option.{slice_get_read}
use Rattle.std.proofs.lemmas.Result.{on_ok_weaker}
use Rattle.basics.proofs.FirstLemmas.{contained}
use Rattle.option_link.specs.declared.target.OptionTarget.{OptionTarget}
use Rattle.option_link.specs.OptionNames.{IsOptionTarget}
use Rattle.proto_visibility.specs.Files.{File, IsSource}
use Rattle.proto_visibility.specs.Reaches.{LinksOptions}
use Rattle.scip_model.specs.Makers.{OccursByItsTarget}
use Rattle.scip_model.specs.Tables.Plans.{occurrence_of}
use Rattle.scip_model.proofs.OptionGapLemmas.{one-gap, one-uncertain}
use Rattle.scip_model.proofs.OptionOccurLemmas.{by-option, front-none, planned-all, planned-more}
use Rattle.scip_model.proofs.OptionTargetLemmas.{its-gap, its-targets, its-uncertain}
use Rattle.scip_model.proofs.PlanLemmas.{grown_same, grown_then, own_then}
use Rattle.scip_model.proofs.option_occurrences.add_option.Goals as goal

pub targets-requires : goal.targets-requires
targets-requires c =
    let source = c.args.maker.now.source in
    let same = sym c.requires.options.0 in
    record {
      source = subst (λ (files : List File). IsSource files source) same c.requires.source;
      links = subst (λ (files : List File). LinksOptions files source) same c.requires.options.1;
    }

pub loop-target-init : goal.loop-target-init
loop-target-init c = record {
  grown = grown_same c.args.texts.now;
  known = c.requires.known;
  added = λ around later grown.
      front-none (OccursByItsTarget c.args.maker.now c.args.options.now.known c.args.option.now)
      c.as_slice-target-items.result.now (map (occurrence_of around later) c.args.plan.now.list.items);
}

pub add_target-requires-clause-own : goal.add_target-requires-clause-own
add_target-requires-clause-own c =
    own_then c.args.maker.now.package.now.files c.args.maker.now.package.now.ids c.args.maker.now.source c.args.texts.now
    c.loop-target.texts c.requires.own c.loop-target.invariant.grown

pub add_target-requires-clause-is_target : goal.add_target-requires-clause-is_target
add_target-requires-clause-is_target c =
    let maker = c.args.maker.now in
    let targets = c.as_slice-target-items.result.now in
    let index = c.loop-target.target-index in
    let target = c.target-item.result in
    let listed = contained targets index target
    (slice_get_read targets (length targets) index target refl c.loop-target-test.true c.target-item.is) in
    (its-targets c.args.options.now.files maker.package.now.files c.requires.options.0 c.args.options.now.known maker.source
    c.as_str-text.result.now maker.text.now c.as_str-text.ensures.same c.args.option.now targets
    (subst (λ (list : List OptionTarget). (its : OptionTarget) → Contains list its
    ↔ IsOptionTarget c.args.options.now.files c.args.options.now.known maker.source c.as_str-text.result.now
    c.args.option.now its) (sym c.as_slice-target-items.ensures) c.in_ok-found.ensures.targets) target).0 listed

pub loop-target-preserved : goal.loop-target-preserved
loop-target-preserved c =
    let maker = c.args.maker.now in
    let targets = c.as_slice-target-items.result.now in
    let index = c.loop-target.target-index in
    let target = c.target-item.result in
    let there = slice_get_read targets (length targets) index target refl c.loop-target-test.true c.target-item.is in
    record {
      grown = grown_then c.args.texts.now c.loop-target.texts c.add_target.new.texts c.loop-target.invariant.grown
          c.in_ok-add_target.ensures.grown;
      known = c.in_ok-add_target.ensures.known;
      added = λ around.
          planned-more (OccursByItsTarget maker c.args.options.now.known c.args.option.now) targets index target
          c.loop-target.texts c.add_target.new.texts around c.args.plan.now.list.items c.loop-target.plan.list.items
          c.add_target.new.plan.list.items there c.in_ok-add_target.ensures.grown (c.loop-target.invariant.added around)
          (c.in_ok-add_target.ensures.added around);
    }

pub returns-clause-added : goal.returns-clause-added
returns-clause-added c =
    let maker = c.args.maker.now in
    let known = c.args.options.now.known in
    let option = c.args.option.now in
    let targets = c.as_slice-target-items.result.now in
    on_ok_weaker c.add_uncertain.result
    (λ told around later grown.
    by-option maker.package.now.files known maker.choices.now maker.package.now.ids maker.encoding maker.source
    maker.text.now option targets
    (its-targets c.args.options.now.files maker.package.now.files c.requires.options.0 known maker.source
    c.as_str-text.result.now maker.text.now c.as_str-text.ensures.same option targets
    (subst (λ (list : List OptionTarget). (its : OptionTarget) → Contains list its
    ↔ IsOptionTarget c.args.options.now.files known maker.source c.as_str-text.result.now option its)
    (sym c.as_slice-target-items.ensures) c.in_ok-found.ensures.targets))
    (map (occurrence_of around later) c.args.plan.now.list.items) (map (occurrence_of around later) c.loop-target.plan.list.items)
    (planned-all (OccursByItsTarget maker known option) targets c.loop-target.target-index c.loop-target.texts around
    c.args.plan.now.list.items c.loop-target.plan.list.items c.loop-target-test.false (c.loop-target.invariant.added around) later
    grown))
    c.add_uncertain.ensures

pub returns-clause-gaps : goal.returns-clause-gaps
returns-clause-gaps c =
    let maker = c.args.maker.now in
    let files = maker.package.now.files in
    let known = c.args.options.now.known in
    let option = c.args.option.now in
    let gap = c.in_ok-found.found.gap in
    on_ok_weaker c.add_uncertain.result
    (λ told. one-gap files known maker.source maker.text.now c.one_gap_an_option.ensures option gap
    (its-gap c.args.options.now.files files c.requires.options.0 known maker.source c.as_str-text.result.now maker.text.now
    c.as_str-text.ensures.same option gap c.in_ok-found.ensures.gap) c.args.told.now.gaps.items
    c.add_gap.new.gaps.items c.in_ok-add_gap.ensures)
    c.add_uncertain.ensures

pub returns-clause-uncertain : goal.returns-clause-uncertain
returns-clause-uncertain c =
    let maker = c.args.maker.now in
    let files = maker.package.now.files in
    let known = c.args.options.now.known in
    let option = c.args.option.now in
    let uncertain = c.in_ok-found.found.uncertain in
    on_ok_weaker c.add_uncertain.result
    (one-uncertain files known maker.source maker.text.now c.one_uncertain_name_an_option.ensures option uncertain
    (its-uncertain c.args.options.now.files files c.requires.options.0 known maker.source c.as_str-text.result.now
    maker.text.now c.as_str-text.ensures.same option uncertain c.in_ok-found.ensures.uncertain)
    c.args.told.now.uncertain.items c.add_uncertain.new.places.items)
    c.add_uncertain.ensures
