use Rattle.std.proofs.Common.{[], None, sym, ◌∙◌, subst, arith}
use Rattle.std.proofs.lemmas.List.{take_all}
use Rattle.std.proofs.lemmas.Option.{slice_get-get_or}
use Rattle.scip_build.specs.Telling.{AreUseFaults}
use Rattle.scip_build.proofs.ToldUseLemmas.{AreFaultsSo, none_so, same_at, other_at}
use Rattle.scip_build.proofs.use_faults.faults_at.Goals as goal

pub loop-place-init : goal.loop-place-init
loop-place-init c =
    subst (AreFaultsSo c.args.linker.now [] None) (sym c.new-faults.ensures.items) (none_so c.args.linker.now)

pub use_faults-requires : goal.use_faults-requires
use_faults-requires c = c.requires c.loop-place.place-index _ (omega arith)

pub loop-place-preserved-then-is_in : goal.loop-place-preserved-then-is_in
loop-place-preserved-then-is_in c =
    same_at c.args.linker.now c.args.places.now c.loop-place.place-index _
    (slice_get-get_or c.args.places.now c.loop-place.place-index _ (omega arith)) c.loop-place.last
    c.loop-place.faults.items c.loop-place.invariant (sym c.is_in.ensures ∙ c.if-is_in.true)

pub loop-place-preserved : goal.loop-place-preserved
loop-place-preserved c =
    other_at c.args.linker.now c.args.places.now c.loop-place.place-index _
    (slice_get-get_or c.args.places.now c.loop-place.place-index _ (omega arith)) c.loop-place.last
    c.loop-place.faults.items c.loop-place.invariant c.in_ok-its.its.items c.in_ok-its.ensures _
    c.in_ok-append.ensures.items

pub returns : goal.returns
returns c =
    let places = c.args.places.now in
    subst (λ ps. AreUseFaults c.args.linker.now ps c.loop-place.faults.items)
    (take_all c.loop-place.place-index places (omega (arith, c.loop-place-test.false))) c.loop-place.invariant.are
