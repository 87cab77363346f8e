use Rattle.std.proofs.Common.{refl, sym, ◌∙◌, arith}
use Rattle.std.proofs.lemmas.Bool.{false≢true}
use Rattle.std.proofs.lemmas.Option.{slice_get-get_or}
use Rattle.proto_visibility.specs.declared.fault.LinkFault.TheVariants.{Ambiguous}
use Rattle.scip_build.proofs.ToldUseLemmas.{then_has, none_has_more, none_is_all}
use Rattle.scip_build.proofs.use_faults.has_ambiguous.Goals as goal

pub loop-fault-init : goal.loop-fault-init
loop-fault-init c = λ k less within same. absurd (omega (arith, less))

pub returns-then-is_ambiguous : goal.returns-then-is_ambiguous
returns-then-is_ambiguous c = (
  λ t. then_has c.args.faults.now c.loop-fault.fault-index _ c.args.place.now
      (slice_get-get_or c.args.faults.now c.loop-fault.fault-index _ (omega arith))
      (sym c.is_ambiguous.ensures ∙ c.if-is_ambiguous.true),
  λ contains. refl,
)

pub loop-fault-preserved : goal.loop-fault-preserved
loop-fault-preserved c =
    none_has_more c.args.faults.now c.loop-fault.fault-index _ c.args.place.now
    (slice_get-get_or c.args.faults.now c.loop-fault.fault-index _ (omega arith))
    (sym c.is_ambiguous.ensures ∙ c.if-is_ambiguous.false) c.loop-fault.invariant

pub returns : goal.returns
returns c = (
  λ t. absurd (false≢true t),
  λ contains. absurd (none_is_all c.args.faults.now (Ambiguous c.args.place.now) c.loop-fault.fault-index
      (omega (arith, c.loop-fault-test.false)) c.loop-fault.invariant contains),
)
