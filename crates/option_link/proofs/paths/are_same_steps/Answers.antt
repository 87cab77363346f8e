use Rattle.std.proofs.Common.{◌<◌, List, length, refl, ap, sym, ◌∙◌, arith}
use Rattle.std.specs.List.{slice_get}
use Rattle.std.proofs.lemmas.Option.{same_Some, slice_get_read}
use Rattle.proto_decl.specs.declared.declaration.DeclarationStep.{DeclarationStep}
use Rattle.option_link.proofs.LoopLemmas.{fails, never_so}
use Rattle.option_link.proofs.PathLemmas.{same_none, same_more, same_all}
use Rattle.option_link.proofs.paths.are_same_steps.Goals as goal

pub returns-then-steps-others : goal.returns-then-steps-others
returns-then-steps-others c = never_so _ (λ same. c.if-steps-others.true (ap length same))

pub loop-index-init : goal.loop-index-init
loop-index-init c = same_none c.args.steps.now c.args.others.now

pub returns-then-not-is_same_step : goal.returns-then-not-is_same_step
returns-then-not-is_same_step c =
    let steps = c.args.steps.now in
    let others = c.args.others.now in
    let index = c.loop-index.index in
    let one = c.index-steps-index.result in
    let other = c.index-others-index.result in
    let within : index < length steps = omega arith in
    let at = slice_get_read steps (length steps) index one refl within c.index-steps-index.is in
    let there = slice_get_read others (length others) index other refl (omega arith) c.index-others-index.is in
    never_so _ (λ same. fails c.is_same_step.result _ c.is_same_step.ensures c.if-not-is_same_step.true
    (same_Some one other (sym at ∙ (ap (λ (l : List DeclarationStep). slice_get l index) same ∙ there))))

pub loop-index-preserved : goal.loop-index-preserved
loop-index-preserved c =
    let steps = c.args.steps.now in
    let others = c.args.others.now in
    let index = c.loop-index.index in
    let one = c.index-steps-index.result in
    let other = c.index-others-index.result in
    let within : index < length steps = omega arith in
    same_more steps others index one other
    (slice_get_read steps (length steps) index one refl within c.index-steps-index.is)
    (slice_get_read others (length others) index other refl (omega arith) c.index-others-index.is)
    (c.is_same_step.ensures.0 c.if-not-is_same_step.false) c.loop-index.invariant

pub returns : goal.returns
returns c = (
  λ t. same_all c.args.steps.now c.args.others.now c.loop-index.index c.if-steps-others.false (omega arith)
      c.loop-index.invariant,
  λ same. refl,
)
