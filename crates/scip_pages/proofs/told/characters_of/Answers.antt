use Rattle.std.proofs.Common.{get_or, refl}
use Rattle.scip_pages.proofs.ToldLemmas.{count_on, few_more}
use Rattle.scip_pages.proofs.told.characters_of.Goals as goal

pub loop-byte-preserved : goal.loop-byte-preserved
loop-byte-preserved c =
    let at = c.loop-byte.byte-index in
    let byte = get_or c.args.bytes.now at 0 in
    record {
      few = few_more c.is_first_byte.result c.loop-byte.count c.more_by-count.result at c.more_by-count.ensures
          c.loop-byte.invariant.few;
      counted = count_on c.args.bytes.now at byte c.loop-byte.count c.more_by-count.result c.is_first_byte.result
          c.loop-byte-test.true refl c.is_first_byte.ensures c.more_by-count.ensures c.loop-byte.invariant.counted;
    }
