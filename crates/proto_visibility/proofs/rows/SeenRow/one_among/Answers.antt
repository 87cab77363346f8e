use Rattle.std.proofs.Common.{arith}
use Rattle.std.proofs.lemmas.Option.{slice_get-get_or}
use Rattle.proto_visibility.proofs.FileOrderLemmas.{none_of_runs_more, none_of_runs, seen_by_run}
use Rattle.proto_visibility.proofs.rows.SeenRow.one_among.Goals as goal

pub returns-in-Some : goal.returns-in-Some
returns-in-Some c =
    let runs = c.as_slice-run-items.result.now in
    let index = c.loop-run.run-index in
    let its = c.in-Some.ensures.1 in (
      c.in-Some.ensures.0,
      seen_by_run c.self.inside.order.now runs c.self.inside.runs.now c.args.self.now index _ c.in-Some.number
          c.as_slice-run-items.ensures.numbers c.self.view_is (slice_get-get_or runs index _ (omega arith)) its.0
          its.1 its.2,
    )

pub loop-run-preserved : goal.loop-run-preserved
loop-run-preserved c =
    let runs = c.as_slice-run-items.result.now in
    let index = c.loop-run.run-index in
    none_of_runs_more c.self.inside.order.now runs c.args.numbers.now index _
    (slice_get-get_or runs index _ (omega arith))
    c.in_default.ensures c.loop-run.invariant

pub returns : goal.returns
returns c =
    none_of_runs c.self.inside.order.now c.as_slice-run-items.result.now c.args.numbers.now c.self.inside.runs.now
    c.args.self.now c.loop-run.run-index c.as_slice-run-items.ensures.numbers c.self.view_is (omega arith)
    c.loop-run.invariant
