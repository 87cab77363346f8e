use Rattle.std.proofs.Common.{get_or, refl}
use Rattle.scip_query.proofs.NameLemmas.{count_on, few_more}
use Rattle.scip_query.proofs.names.count_of.Goals as goal

pub loop-b-preserved : goal.loop-b-preserved
loop-b-preserved c =
    let byte = c.args.byte in
    let at = c.loop-b.b-index in
    record {
      few = few_more byte (get_or c.args.text.now at 0) c.loop-b.count c.more_by-count.result at c.more_by-count.ensures
          c.loop-b.invariant.few;
      counted = count_on byte c.args.text.now at (get_or c.args.text.now at 0) c.loop-b.count
          c.more_by-count.result c.loop-b-test.true refl c.more_by-count.ensures c.loop-b.invariant.counted;
    }
