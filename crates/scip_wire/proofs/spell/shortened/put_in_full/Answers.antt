use Rattle.std.proofs.Common.{sym, arith}
use Rattle.std.proofs.lemmas.List.{at_drop_all}
use Rattle.scip_wire.specs.Shortened.{in_full}
use Rattle.scip_wire.proofs.ShortenedLemmas.{place_further, sum_further}
use Rattle.scip_wire.proofs.OutputLemmas.{alike, both}
use Rattle.scip_wire.proofs.spell.shortened.put_in_full.Goals as goal

pub distances-preserved : goal.distances-preserved
distances-preserved g c =
    let distances = c.args.distances.now in
    let i = c.distances.distance-index in
    let inside = c.distances-test.true in
    let split = c.split_at.ensures in
    let step = place_further distances i inside c.args.prefix.now c.distances.left.now _ _ split.front split.back in
    record {
      fits = omega (arith, sum_further distances i inside, c.distances.invariant.fits, split.back_len);
      puts = λ sink out left. c.distances.invariant.puts sink out
          (alike step (both c.put.ensures (both c.put-in-distances.ensures left)));
    }

pub returns : goal.returns
returns g c =
    c.distances.invariant.puts _ _
    (alike (sym (at_drop_all (λ ys. in_full c.args.prefix.now c.distances.left.now ys) c.args.distances.now
    c.distances.distance-index c.distances-test.false)) c.put-2.ensures)
