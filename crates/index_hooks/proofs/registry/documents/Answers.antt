-- The rules before an answer may all pass, up to the first that doesn't.
use Rattle.std.proofs.Common.{inl, inr, refl, arith, ◌∙◌}
use Rattle.basics.proofs.ListLemmas.{all_taken as all_asked}
use Rattle.index_hooks.specs.declared.choice.DocChoice.TheVariants.{Pass}
use Rattle.index_hooks.proofs.RegistryAskedLemmas.{all_more, first_of, is_turn}
use Rattle.index_hooks.proofs.registry.documents.Goals as goal

pub returns-in_default : goal.returns-in_default
returns-in_default g c =
    inl (
      c.in_default.not-Pass,
      first_of c.args.rules.now _ c.rule-item.result c.loop-rule-test.true c.rule-item.is
          (λ r. (goal.DocHook-dyn g (r.vtable, r.value)).may r.value c.args.view.now Pass)
          (λ r. (goal.DocHook-dyn g (r.vtable, r.value)).may r.value c.args.view.now c.ask_rule.result)
          c.loop-rule.invariant.answers c.ask_rule.ensures,
    )

pub loop-rule-preserved : goal.loop-rule-preserved
loop-rule-preserved g c = record {
  answers = all_more c.args.rules.now _ c.rule-item.result c.loop-rule-test.true c.rule-item.is
      (λ r. (goal.DocHook-dyn g (r.vtable, r.value)).may r.value c.args.view.now Pass)
      c.loop-rule.invariant.answers c.in-Pass.ensures;
  turns = omega (arith, c.next.ensures.taken, c.loop-rule.invariant.turns);
}

pub ask_rule-requires : goal.ask_rule-requires
ask_rule-requires g c =
    is_turn c.args.rules.now _ c.rule-item.result c.loop-rule-test.true c.rule-item.is c.args.first _
    (c.next.ensures.place ∙ c.loop-rule.invariant.turns)

pub returns : goal.returns
returns g c =
    inr (
      refl,
      all_asked (λ r. (goal.DocHook-dyn g (r.vtable, r.value)).may r.value c.args.view.now Pass)
          c.args.rules.now _ c.loop-rule-test.false c.loop-rule.invariant.answers,
    )
