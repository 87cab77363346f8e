-- Every filter so far may answer true, and each has had its turn.
use Rattle.std.proofs.Common.{◌≡◌, true, take}
use Rattle.std.specs.Prelude.{All}
use Rattle.index_hooks.specs.Turns.{taken}
use Rattle.index_hooks.proofs.registry.keeps.Given as goal

abbrev pub invariant-loop-filter : goal.invariant-loop-filter
invariant-loop-filter g l = record {
  answers : All (λ f. (goal.FilterHook-dyn g (f.vtable, f.value)).may f.value l.view true)
      (take l.filter-index l.filters);
  turns : taken l.turns ≡ l.filter-index;
}
