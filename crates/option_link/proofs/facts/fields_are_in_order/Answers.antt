use Rattle.std.proofs.Common.{sym, subst, arith}
use Rattle.option_link.proofs.LoopLemmas.{none_yet, one_more, not_all, all_hold, fails}
use Rattle.option_link.proofs.FactLemmas.{Rise, RiseBeside}
use Rattle.option_link.proofs.BesideLemmas.{fields_beside}
use Rattle.option_link.proofs.facts.fields_are_in_order.Goals as goal

pub loop-file-init : goal.loop-file-init
loop-file-init c = none_yet RiseBeside c.args.known.now

pub returns-then-not-rise : goal.returns-then-not-rise
returns-then-not-rise c =
    let known = c.args.known.now in
    let file = c.loop-file.file in
    let fields = c.fields_of.result.now in
    let its = fields_beside known file fields (omega (arith, c.count-file-end.ensures)) c.fields_of.ensures in
    not_all RiseBeside known file its.0 its.1
    (λ rises. fails c.rise.result (Rise fields) c.rise.ensures c.if-not-rise.true (subst Rise (sym its.2) rises))

pub loop-file-preserved : goal.loop-file-preserved
loop-file-preserved c =
    let known = c.args.known.now in
    let file = c.loop-file.file in
    let fields = c.fields_of.result.now in
    let its = fields_beside known file fields (omega (arith, c.count-file-end.ensures)) c.fields_of.ensures in
    one_more RiseBeside known file its.0 its.1 (subst Rise its.2 (c.rise.ensures.0 c.if-not-rise.false))
    c.loop-file.invariant

pub returns : goal.returns
returns c = all_hold RiseBeside c.args.known.now c.loop-file.file (omega (arith, c.count-file-end.ensures))
    c.loop-file.invariant
