use Rattle.std.proofs.Common.{arith}
use Rattle.option_link.proofs.ItemLemmas.{first_by, more_without}
use Rattle.option_link.proofs.LoopLemmas.{fails}
use Rattle.option_link.proofs.fields.KnownFiles.first_among.Goals as goal

pub loop-index-init : goal.loop-index-init
loop-index-init c = λ field x before. omega (arith, before)

pub returns-then-is_item : goal.returns-then-is_item
returns-then-is_item c =
    let self = c.args.self in
    first_by self.names.now self.known.now c.args.set c.args.message c.loop-index.index
    (c.in_ok-is_item.ensures.0 c.if-is_item.true) c.loop-index.invariant

pub loop-index-preserved : goal.loop-index-preserved
loop-index-preserved c =
    let self = c.args.self in
    more_without self.names.now self.known.now c.args.set c.args.message c.loop-index.index
    (fails c.in_ok-is_item.is_item _ c.in_ok-is_item.ensures c.if-is_item.false) c.loop-index.invariant

pub returns : goal.returns
returns c = λ field x before. c.loop-index.invariant field x (omega (arith, before))
