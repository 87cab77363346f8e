use Rattle.std.proofs.Common.{◌+◌, ◌<◌, ◌++◌, All, length, refl, ap, sym, ◌∙◌, subst, arith}
use Rattle.std.proofs.lemmas.Option.{slice_get_read, slice_get_within}
use Rattle.proto_visibility.specs.Tables.ImportTables.{HasStep}
use Rattle.proto_visibility.specs.Tables.OptionTables.{ByEach}
use Rattle.proto_visibility.specs.Tables.Visits.{Found}
use Rattle.proto_visibility.proofs.SeeingLemmas.{Follows, all_followed, follows_first, follows_more, follows_all}
use Rattle.proto_visibility.proofs.ReachingLemmas.{each_listed, each_within}
use Rattle.proto_visibility.proofs.reaching.follow_all.Goals as goal

pub loop-next-init : goal.loop-next-init
loop-next-init c = record {
  reached = follows_first (ByEach (HasStep c.args.table.now)) c.args.search.now.numbers 0
      (λ index number other h. absurd (omega (arith, h)));
  files = c.requires.files;
}

pub visit_steps-requires : goal.visit_steps-requires
visit_steps-requires c =
    let table = c.args.table.now in
    let next = c.in-Some.next in
    let below : next < length table = subst (λ n. next < n) c.loop-next.invariant.files c.in-Some.ensures.below in
    let stands = slice_get_read table (length table) next c.index-table-next.result refl below c.index-table-next.is in
    subst (λ n. All (λ number. number < n) (c.index-table-next.result.plain.items ++ c.index-table-next.result.public.items))
    (sym c.loop-next.invariant.files) (each_within table next c.index-table-next.result c.requires.within stands)

pub loop-next-smaller : goal.loop-next-smaller
loop-next-smaller c =
    let within = slice_get_within c.loop-next.search.numbers c.loop-next.done c.in-Some.next
    (sym c.in-Some.ensures.value) in
    omega (arith, within, c.in-Some.ensures.few, c.loop-next.invariant.files)

pub loop-next-preserved : goal.loop-next-preserved
loop-next-preserved c =
    let table = c.args.table.now in
    let steps = c.index-table-next.result in
    let next = c.in-Some.next in
    let below : next < length table = subst (λ n. next < n) c.loop-next.invariant.files c.in-Some.ensures.below in
    let stands = slice_get_read table (length table) next steps refl below c.index-table-next.is in
    record {
      reached = subst (Follows (ByEach (HasStep table)) c.args.search.now.numbers (c.loop-next.done + 1))
          (sym (ap (λ (f : Found). f.numbers) c.in_ok-visit_steps.ensures))
          (follows_more (ByEach (HasStep table)) c.args.search.now.numbers c.loop-next.done
          c.loop-next.search.numbers next (steps.plain.items ++ steps.public.items) c.loop-next.invariant.reached
          (sym c.in-Some.ensures.value) (each_listed table next steps stands));
      files = ap (λ (f : Found). f.files) c.in_ok-visit_steps.ensures ∙ c.loop-next.invariant.files;
    }

pub returns-clause-led : goal.returns-clause-led
returns-clause-led c =
    follows_all (ByEach (HasStep c.args.table.now)) c.args.search.now.numbers c.loop-next.done
    c.loop-next.search.numbers c.loop-next.invariant.reached
    (all_followed c.loop-next.search.numbers c.loop-next.done c.in_default.ensures.value)
