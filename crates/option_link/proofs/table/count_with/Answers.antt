use Rattle.std.proofs.Common.{◌≡◌, ◌<◌, get_or, length, ap, sym, ◌∙◌, arith}
use Rattle.std.proofs.lemmas.Option.{same_Some, slice_get-get_or, slice_get_within}
use Rattle.option_link.specs.declared.table.Listed.{Listed}
use Rattle.option_link.proofs.LoopLemmas.{none_yet, one_more}
use Rattle.option_link.proofs.table.count_with.Goals as goal

-- what is read behind the end of the list
abbrev nothing : Listed
nothing = record { hash64 = 0; place = record { file = 0; index = 0 } }

pub loop-index-init : goal.loop-index-init
loop-index-init c = none_yet (λ (one : Listed). one.hash64 ≡ c.args.hash64) c.args.listed.now

pub loop-index-preserved : goal.loop-index-preserved
loop-index-preserved c =
    let listed = c.args.listed.now in
    let index = c.loop-index.index in
    let within : index < length listed = omega arith in
    one_more (λ (o : Listed). o.hash64 ≡ c.args.hash64) listed index (get_or listed index nothing)
    (slice_get-get_or listed index nothing within) c.if-hash-hash64.false c.loop-index.invariant

pub returns-then-hash-hash64-clause-same : goal.returns-then-hash-hash64-clause-same
returns-then-hash-hash64-clause-same c = c.loop-index.invariant

pub returns-then-hash-hash64-clause-stop : goal.returns-then-hash-hash64-clause-stop
returns-then-hash-hash64-clause-stop c =
    let listed = c.args.listed.now in
    let index = c.loop-index.index in
    let here = get_or listed index nothing in
    let within : index < length listed = omega arith in
    let read = slice_get-get_or listed index nothing within in
    λ one at is. c.if-hash-hash64.true (ap (λ (o : Listed). o.hash64) (same_Some here one (sym read ∙ at)) ∙ is)

pub returns-clause-same : goal.returns-clause-same
returns-clause-same c = λ k one before at. c.loop-index.invariant k one (omega (arith, before)) at

pub returns-clause-stop : goal.returns-clause-stop
returns-clause-stop c = λ one at is. absurd (omega (arith, slice_get_within c.args.listed.now _ one at))
