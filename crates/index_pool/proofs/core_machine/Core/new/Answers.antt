use Rattle.std.proofs.Common.{◌≡◌, ◌≤◌, ◌<◌, length, arith}
use Rattle.index_pool.specs.Workers.{most_workers}
use Rattle.index_pool.proofs.CoreFieldsLemmas.{start_kept}
use Rattle.index_pool.proofs.core_machine.Core.new.Goals as goal

pub invariant_of-result : goal.invariant_of-result
invariant_of-result c =
    let range = c.count-end.ensures.range in
    let full : length c.loop.all.items ≡ c.count-end.result = omega (arith, c.loop.invariant.count) in
    (start_kept _ _ _ range.0 range.1 c.requires full c.loop.invariant.idles c.loop.invariant.roomy).0

pub returns : goal.returns
returns c =
    let range = c.count-end.ensures.range in
    let value = c.count-end.ensures.value in
    let full : length c.loop.all.items ≡ c.args.workers = omega (arith, c.loop.invariant.count) in
    let some : 0 < c.args.workers = omega arith in
    let few : c.args.workers ≤ most_workers = omega arith in
    (start_kept _ _ _ some few c.requires full c.loop.invariant.idles c.loop.invariant.roomy).1
