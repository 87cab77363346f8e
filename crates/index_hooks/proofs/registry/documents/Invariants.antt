-- Every rule so far may pass, and each has had its turn.
use Rattle.std.proofs.Common.{◌≡◌, ◌+◌, take}
use Rattle.std.specs.Prelude.{All}
use Rattle.index_hooks.specs.declared.choice.DocChoice.TheVariants.{Pass}
use Rattle.index_hooks.specs.Turns.{taken}
use Rattle.index_hooks.proofs.registry.documents.Given as goal

abbrev pub invariant-loop-rule : goal.invariant-loop-rule
invariant-loop-rule g l = record {
  answers : All (λ r. (goal.DocHook-dyn g (r.vtable, r.value)).may r.value l.view Pass) (take l.rule-index l.rules);
  turns : taken l.turns ≡ l.first + l.rule-index;
}
