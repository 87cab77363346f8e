use Rattle.std.proofs.Common.{◌≡◌, Some, take}
use Rattle.scip_model.specs.Tables.Plans.{ranges_over}
use Rattle.scip_model.proofs.occurrences.ranges_of.Given as goal

-- those so far
abbrev pub invariant-loop-detail : goal.invariant-loop-detail
invariant-loop-detail l =
    l.ranges.items ≡ ranges_over l.maker.encoding l.maker.text.now (Some (take l.detail-index l.details))
