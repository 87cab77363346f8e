use Rattle.std.proofs.Common.{arith, rules, subst}
use Rattle.std.specs.String.{string_bytes}
use Rattle.scip_symbol.specs.Parts.{IsPart}
use Rattle.scip_symbol.proofs.PackageLemmas.{one-more}
use Rattle.scip_symbol.proofs.package.first_bad_part.Goals as goal

pub loop-index-preserved : goal.loop-index-preserved
loop-index-preserved c =
    let is : IsPart c.as_str.result.now = c.is_part.ensures.0 (search rules) in
    one-more string_bytes c.args.parts.now c.loop-index.index c.index-parts-index.result
    (omega arith) c.index-parts-index.is c.loop-index.invariant
    (subst IsPart c.as_str.ensures.value is)
