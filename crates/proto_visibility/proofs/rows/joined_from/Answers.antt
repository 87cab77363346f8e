use Rattle.std.proofs.Common.{suc, ◌∷◌, get_or, sym, ◌∙◌, subst, arith}
use Rattle.std.proofs.lemmas.List.{get_or_default}
use Rattle.proto_visibility.specs.declared.rows.Run.{Run}
use Rattle.proto_visibility.specs.Tables.Rows.{AreInOrder}
use Rattle.proto_visibility.proofs.RowRunLemmas.{behind_first, pushed_order, taken_all, taken_first, taken_more}
use Rattle.proto_visibility.proofs.rows.joined_from.Goals as goal

abbrev none : Run
none = record { first = 0; last = 0 }

pub loop-next-init : goal.loop-next-init
loop-next-init c =
    taken_first c.new-joined.result.items c.args.first c.args.others.now c.new-joined.ensures.items c.requires.whole

pub with_next-requires-clause-whole : goal.with_next-requires-clause-whole
with_next-requires-clause-whole c = c.loop-next.invariant.whole

pub with_next-requires-clause-next : goal.with_next-requires-clause-next
with_next-requires-clause-next c = c.requires.whole (suc c.loop-next.next-index) none (omega arith)

pub with_next-requires-clause-behind : goal.with_next-requires-clause-behind
with_next-requires-clause-behind c =
    let index = c.loop-next.next-index in
    let rises = c.requires.order index (suc index) none (omega arith) (omega arith) in
    omega (arith, c.loop-next.invariant.behind none, rises)

pub loop-next-preserved : goal.loop-next-preserved
loop-next-preserved c =
    let others = c.args.others.now in
    let index = c.loop-next.next-index in
    let next = get_or others index none in
    taken_more c.loop-next.joined.items c.with_next.new.runs.items c.loop-next.run _ next (c.args.first ∷ others) index
    c.loop-next.invariant (omega arith)
    (get_or_default others index none next (omega arith) ∙ behind_first c.args.first others index next)
    c.in_ok-run.ensures.numbers c.in_ok-run.ensures.before c.in_ok-run.ensures.whole c.in_ok-run.ensures.behind

pub returns-clause-order : goal.returns-clause-order
returns-clause-order c =
    subst AreInOrder (sym c.in_ok-push.ensures.items)
    (pushed_order c.loop-next.joined.items c.loop-next.run c.loop-next.invariant.before c.loop-next.invariant.whole)

pub returns-clause-numbers : goal.returns-clause-numbers
returns-clause-numbers c = λ number.
    rw c.in_ok-push.ensures.items
    (taken_all c.loop-next.joined.items c.loop-next.run (c.args.first ∷ c.args.others.now) c.loop-next.next-index
    c.loop-next.invariant (omega arith) number)
