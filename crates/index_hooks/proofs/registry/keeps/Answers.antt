-- The filters before an answer may all say true, which the first false ends.
use Rattle.std.proofs.Common.{true, false, arith}
use Rattle.basics.proofs.ListLemmas.{all_taken as all_asked}
use Rattle.index_hooks.proofs.RegistryAskedLemmas.{all_more, first_of, is_turn}
use Rattle.index_hooks.proofs.registry.keeps.Goals as goal

pub returns-then-not-ask_filter-clause-keeps : goal.returns-then-not-ask_filter-clause-keeps
returns-then-not-ask_filter-clause-keeps g c =
    first_of c.args.filters.now _ c.filter-item.result c.loop-filter-test.true c.filter-item.is
    (λ f. (goal.FilterHook-dyn g (f.vtable, f.value)).may f.value c.args.view.now true)
    (λ f. (goal.FilterHook-dyn g (f.vtable, f.value)).may f.value c.args.view.now false)
    c.loop-filter.invariant.answers c.if-not-ask_filter.ensures

pub loop-filter-preserved : goal.loop-filter-preserved
loop-filter-preserved g c = record {
  answers = all_more c.args.filters.now _ c.filter-item.result c.loop-filter-test.true c.filter-item.is
      (λ f. (goal.FilterHook-dyn g (f.vtable, f.value)).may f.value c.args.view.now true)
      c.loop-filter.invariant.answers c.if-not-ask_filter.ensures;
  turns = omega (arith, c.next.ensures.taken, c.loop-filter.invariant.turns);
}

pub ask_filter-requires : goal.ask_filter-requires
ask_filter-requires g c =
    is_turn c.args.filters.now _ c.filter-item.result c.loop-filter-test.true c.filter-item.is 0 _
    (omega (arith, c.next.ensures.place, c.loop-filter.invariant.turns))

pub returns-clause-keeps : goal.returns-clause-keeps
returns-clause-keeps g c =
    all_asked (λ f. (goal.FilterHook-dyn g (f.vtable, f.value)).may f.value c.args.view.now true)
    c.args.filters.now _ c.loop-filter-test.false c.loop-filter.invariant.answers
