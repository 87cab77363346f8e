use Rattle.std.proofs.Common.{◌++◌, codes}
use Rattle.scip_query.proofs.NearestLemmas.{ends_else, ends_then}
use Rattle.scip_query.proofs.nearness.ends_with_file.Goals as goal

pub returns-then-ends_with : goal.returns-then-ends_with
returns-then-ends_with c =
    ends_then c.args.text.now (codes " `" ++ c.args.path.now) (codes "`/") c.without_last.result.now c.ends_with.result
    c.ends_with_path.result c.without_last.ensures c.ends_with.ensures.value c.if-ends_with.true c.ends_with_path.ensures

pub returns-else-ends_with : goal.returns-else-ends_with
returns-else-ends_with c =
    ends_else c.args.text.now (codes " `" ++ c.args.path.now) (codes "`/") c.ends_with.result c.ends_with.ensures.value
    c.if-ends_with.false
