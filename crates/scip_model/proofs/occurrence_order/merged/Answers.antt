use Rattle.std.proofs.Common.{sym, subst, ap, List, [], map}
use Rattle.std.specs.Ordering.{on}
use Rattle.std.specs.Option.{option_map}
use Rattle.scip_records.specs.declared.records.Occurrence.{Occurrence}
use Rattle.scip_model.specs.OccurrenceOrder.{occurrence_cmp}
use Rattle.scip_model.specs.Tables.Plans.{Around, occurrence_of}
use Rattle.scip_model.proofs.OccurrenceOrderLemmas.{occurrence_total}
use Rattle.scip_model.proofs.MergeApartLemmas.{IsMergingApart, begins-apart, step-apart, ends-apart}
use Rattle.scip_model.proofs.MergeLemmas.{IsMerging, begins, step, ends, takes_one}
use Rattle.scip_model.proofs.PlanLemmas.{least_mapped, one_mapped}
use Rattle.scip_model.proofs.occurrence_order.merged.Goals as goal

pub loop-next-init : goal.loop-next-init
loop-next-init c = record {
  untied = λ around untied.
      rw (c.in_ok-both.ensures.items, c.from_vec-first_left.ensures.items, c.from_vec-second_left.ensures.items)
      (begins occurrence_cmp (map (occurrence_of around c.args.texts.now) c.args.first.items)
      (map (occurrence_of around c.args.texts.now) c.args.second.items));
  apart = λ around first second.
      rw (c.in_ok-both.ensures.items, c.from_vec-first_left.ensures.items, c.from_vec-second_left.ensures.items)
      (begins-apart occurrence_cmp occurrence_total (map (occurrence_of around c.args.texts.now) c.args.first.items)
      (map (occurrence_of around c.args.texts.now) c.args.second.items) first second);
}

pub loop-next-preserved : goal.loop-next-preserved
loop-next-preserved c = record {
  untied = λ around untied.
      let f = occurrence_of around c.args.texts.now in
      let first = map f c.args.first.items in
      let second = map f c.args.second.items in
      let a = c.loop-next.first_left.items in
      let b = c.loop-next.second_left.items in
      let a_left = c.take_least.new.first.items in
      let b_left = c.take_least.new.second.items in
      let next = c.take_least.result in
      subst (λ (taken : List Occurrence). IsMerging occurrence_cmp first second taken (map f a_left) (map f b_left))
      (sym (one_mapped f occurrence_cmp c.loop-next.both.items c.push.new.self.items c.in-Some.next
      c.in_ok-push.ensures.items))
      (step occurrence_cmp occurrence_total first second (map f c.loop-next.both.items) (map f a) (map f b)
      (map f a_left) (map f b_left) (option_map f next) (f c.in-Some.next)
      (least_mapped f occurrence_cmp a b next a_left b_left (c.take_least.ensures around))
      (ap (option_map f) c.in-Some.is) untied (c.loop-next.invariant.untied around untied));
  apart = λ around up rises.
      let f = occurrence_of around c.args.texts.now in
      let first = map f c.args.first.items in
      let second = map f c.args.second.items in
      let a = c.loop-next.first_left.items in
      let b = c.loop-next.second_left.items in
      let a_left = c.take_least.new.first.items in
      let b_left = c.take_least.new.second.items in
      let next = c.take_least.result in
      subst (λ (taken : List Occurrence).
      IsMergingApart occurrence_cmp occurrence_total first second taken (map f a_left) (map f b_left))
      (sym (one_mapped f occurrence_cmp c.loop-next.both.items c.push.new.self.items c.in-Some.next
      c.in_ok-push.ensures.items))
      (step-apart occurrence_cmp occurrence_total first second (map f c.loop-next.both.items) (map f a) (map f b)
      (map f a_left) (map f b_left) (option_map f next) (f c.in-Some.next)
      (least_mapped f occurrence_cmp a b next a_left b_left (c.take_least.ensures around))
      (ap (option_map f) c.in-Some.is) (c.loop-next.invariant.apart around up rises));
}

pub returns-clause-untied : goal.returns-clause-untied
returns-clause-untied c = λ around untied.
    let f = occurrence_of around c.args.texts.now in
    let a = c.loop-next.first_left.items in
    let b = c.loop-next.second_left.items in
    let a_left = c.take_least.new.first.items in
    let b_left = c.take_least.new.second.items in
    let next = c.take_least.result in
    ends occurrence_cmp (map f c.args.first.items) (map f c.args.second.items) (map f c.loop-next.both.items)
    (map f a) (map f b) (map f a_left) (map f b_left) (option_map f next)
    (least_mapped f occurrence_cmp a b next a_left b_left (c.take_least.ensures around))
    (ap (option_map f) c.in_default.is) (c.loop-next.invariant.untied around untied)

pub returns-clause-apart : goal.returns-clause-apart
returns-clause-apart c = λ around up rises.
    let f = occurrence_of around c.args.texts.now in
    let a = c.loop-next.first_left.items in
    let b = c.loop-next.second_left.items in
    let a_left = c.take_least.new.first.items in
    let b_left = c.take_least.new.second.items in
    let next = c.take_least.result in
    ends-apart occurrence_cmp occurrence_total (map f c.args.first.items) (map f c.args.second.items)
    (map f c.loop-next.both.items) (map f a) (map f b) (map f a_left) (map f b_left) (option_map f next)
    (least_mapped f occurrence_cmp a b next a_left b_left (c.take_least.ensures around))
    (ap (option_map f) c.in_default.is) (c.loop-next.invariant.apart around up rises)

pub loop-next-smaller : goal.loop-next-smaller
loop-next-smaller c =
    let around : Around = record { first = 0; ranges = [] } in
    takes_one (on (occurrence_of around c.args.texts.now) occurrence_cmp) c.loop-next.first_left.items
    c.loop-next.second_left.items c.take_least.new.first.items c.take_least.new.second.items c.take_least.result
    c.in-Some.next (c.take_least.ensures around) c.in-Some.is
