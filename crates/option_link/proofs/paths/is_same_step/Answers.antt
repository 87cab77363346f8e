use Rattle.std.proofs.Common.{ap}
use Rattle.proto_decl.specs.declared.declaration.DeclarationStep.{DeclarationStep}
use Rattle.option_link.proofs.LoopLemmas.{fails, never_so}
use Rattle.option_link.proofs.PathLemmas.{step_by}
use Rattle.option_link.proofs.paths.is_same_step.Goals as goal

pub returns-then-not-is_kind : goal.returns-then-not-is_kind
returns-then-not-is_kind c = never_so _ (λ same.
    fails c.is_kind.result _ c.is_kind.ensures c.if-not-is_kind.true (ap (λ (s : DeclarationStep). s.kind) same))

pub returns : goal.returns
returns c =
    step_by c.args.step.now c.args.other.now c.as_str.result.now c.as_str-2.result.now c.is_text.result
    (c.is_kind.ensures.0 c.if-not-is_kind.false) c.as_str.ensures c.as_str-2.ensures c.is_text.ensures
