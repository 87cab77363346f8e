use Rattle.std.proofs.Common.{◌≡◌, ◌+◌, ◌<◌, true, Some, length, refl, ap, sym, ◌∙◌, subst, arith}
use Rattle.std.specs.List.{slice_get}
use Rattle.std.proofs.lemmas.Option.{slice_get_read, slice_get_within}
use Rattle.proto_visibility.specs.Tables.ImportTables.{HasStep}
use Rattle.proto_visibility.specs.Tables.Visits.{Found, visit_all}
use Rattle.proto_visibility.proofs.SeeingLemmas.{Follows, numbers_within, all_followed, follows_first, follows_more}
use Rattle.proto_visibility.proofs.SeeingLemmas.{follows_all, steps_listed}
use Rattle.proto_visibility.proofs.seeing.follow_from.Goals as goal

pub loop-next-init : goal.loop-next-init
loop-next-init c = record {
  reached = follows_first (HasStep c.args.table.now) c.args.search.now.numbers c.args.from c.requires.followed;
  files = c.requires.files;
}

pub visit_all-requires : goal.visit_all-requires
visit_all-requires c =
    let table = c.args.table.now in
    let steps = c.index-table-next.result in
    let next = c.in-Some.next in
    let below : next < length table = subst (λ n. next < n) c.loop-next.invariant.files c.in-Some.ensures.below in
    let stands : slice_get table next ≡ Some steps =
    slice_get_read table (length table) next steps refl below c.index-table-next.is in
    numbers_within table next steps true c.loop-next.search.files c.as_slice.result.now c.requires.within stands
    c.loop-next.invariant.files
    (c.as_slice.ensures.value ∙ ap (λ s. s.public.items) (sym c.index-table-next.is))

pub loop-next-smaller : goal.loop-next-smaller
loop-next-smaller c =
    let within = slice_get_within c.loop-next.search.numbers c.loop-next.done c.in-Some.next
    (sym c.in-Some.ensures.value) in
    omega (arith, within, c.in-Some.ensures.few, c.loop-next.invariant.files)

pub loop-next-preserved : goal.loop-next-preserved
loop-next-preserved c =
    let table = c.args.table.now in
    let steps = c.index-table-next.result in
    let next = c.in-Some.next in
    let below : next < length table = subst (λ n. next < n) c.loop-next.invariant.files c.in-Some.ensures.below in
    let stands : slice_get table next ≡ Some steps =
    slice_get_read table (length table) next steps refl below c.index-table-next.is in
    let public = c.as_slice.ensures.value ∙ ap (λ s. s.public.items) (sym c.index-table-next.is) in
    let found = ap (λ (f : Found). f.numbers) c.in_ok-visit_all.ensures
    ∙ ap (visit_all c.loop-next.search.numbers) public in
    record {
      reached = subst (Follows (HasStep table) c.args.search.now.numbers (c.loop-next.done + 1)) (sym found)
          (follows_more (HasStep table) c.args.search.now.numbers c.loop-next.done c.loop-next.search.numbers next
          steps.public.items c.loop-next.invariant.reached (sym c.in-Some.ensures.value)
          (steps_listed table next steps stands true));
      files = ap (λ (f : Found). f.files) c.in_ok-visit_all.ensures ∙ c.loop-next.invariant.files;
    }

pub returns-clause-led : goal.returns-clause-led
returns-clause-led c =
    follows_all (HasStep c.args.table.now) c.args.search.now.numbers c.loop-next.done c.loop-next.search.numbers
    c.loop-next.invariant.reached
    (all_followed c.loop-next.search.numbers c.loop-next.done c.in_default.ensures.value)

pub returns-clause-front : goal.returns-clause-front
returns-clause-front c = c.loop-next.invariant.reached.front
