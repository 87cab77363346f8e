use Rattle.std.proofs.Common.{arith}
use Rattle.proto_visibility.specs.Kept.{IsTakenBefore}
use Rattle.proto_visibility.proofs.PassLemmas.{passed_within}
use Rattle.proto_visibility.proofs.omissions.omit_clashes.Goals as goal

pub loop-index-init : goal.loop-index-init
loop-index-init c = λ files placed start passed. passed

pub loop-index-preserved : goal.loop-index-preserved
loop-index-preserved c = λ files placed start passed.
    c.in_ok-pass_item.ensures files placed start (c.loop-index.invariant files placed start passed)

pub returns : goal.returns
returns c = λ files placed start passed.
    passed_within (IsTakenBefore files) c.args.items.now start c.loop-index.index c.loop-index.omissions.items
    c.loop-index.names (omega arith) (c.loop-index.invariant files placed start passed)
