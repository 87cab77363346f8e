use Rattle.std.proofs.Common.{get_or, arith}
use Rattle.std.proofs.lemmas.Option.{slice_get-get_or}
use Rattle.option_link.specs.declared.table.Listed.{Listed}
use Rattle.option_link.specs.Marks.{IsMarked}
use Rattle.option_link.proofs.LoopLemmas.{none_yet, one_more, all_of}
use Rattle.option_link.proofs.OwnerLemmas.{nothing}
use Rattle.option_link.proofs.table.listed_marks.Goals as goal

pub loop-one-init : goal.loop-one-init
loop-one-init c = none_yet (λ (one : Listed). IsMarked c.in_ok-marks.marks.items one.hash64) c.args.listed.now

pub loop-one-preserved : goal.loop-one-preserved
loop-one-preserved c =
    let listed = c.args.listed.now in
    let index = c.loop-one.one-index in
    one_more (λ (one : Listed). IsMarked c.mark.new.marks.items one.hash64) listed index (get_or listed index nothing)
    (slice_get-get_or listed index nothing (omega arith)) c.mark.ensures.added
    (λ k one before at. c.mark.ensures.kept one.hash64 (c.loop-one.invariant k one before at))

pub returns : goal.returns
returns c =
    all_of (λ (one : Listed). IsMarked c.loop-one.marks.items one.hash64) c.args.listed.now c.loop-one.one-index
    (omega arith) c.loop-one.invariant
