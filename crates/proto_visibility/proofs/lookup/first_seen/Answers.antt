use Rattle.std.proofs.Common.{sym, ◌∙◌, arith}
use Rattle.std.proofs.lemmas.Bool.{false≢true}
use Rattle.proto_visibility.proofs.LookupListedLemmas.{none_shared_more, none_shared}
use Rattle.proto_visibility.proofs.lookup.first_seen.Goals as goal

pub loop-number-preserved : goal.loop-number-preserved
loop-number-preserved c =
    let numbers = c.args.numbers.now in
    let others = c.args.row.now in
    let index = c.loop-number.number-index in
    none_shared_more numbers others index
    (λ there. false≢true (sym c.if-has.false ∙ c.has.ensures.1 there)) c.loop-number.invariant

pub returns : goal.returns
returns c = none_shared c.args.numbers.now c.args.row.now c.loop-number.number-index
    (omega arith) c.loop-number.invariant
