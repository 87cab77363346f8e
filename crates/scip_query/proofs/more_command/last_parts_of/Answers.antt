use Rattle.std.proofs.Common.{arith, get_or, refl, sym}
use Rattle.scip_query.proofs.MoreCommandLemmas.{colon_on, colon_parts, colon_within}
use Rattle.scip_query.proofs.more_command.last_parts_of.Goals as goal

pub loop-at-preserved : goal.loop-at-preserved
loop-at-preserved c =
    let line = c.args.line.now in
    let at = c.loop-at.at in
    let byte = get_or line at 0 in
    let found = c.loop-at.found in
    record {
      within = rw c.later_colon-found.ensures (colon_within at byte found c.loop-at.invariant.within);
      parts = rw c.later_colon-found.ensures
          (colon_on line at byte found (omega arith) refl c.loop-at.invariant.within
          c.loop-at.invariant.parts);
    }

pub returns : goal.returns
returns c =
    sym (colon_parts c.args.line.now c.loop-at.at c.in_ok-place.place c.loop-at.found c.split_at.result.0.now
    c.split_at.result.1.now c.split_at-2.result.1.now (omega arith) c.in_ok-place.was c.loop-at.invariant.parts
    c.split_at.ensures.front c.split_at.ensures.back c.split_at-2.ensures.back)
