use Rattle.std.proofs.Common.{subst}
use Rattle.std.proofs.lemmas.Result.{IfOk-weaker}
use Rattle.std.specs.Ordering.{nat_cmp, on}
use Rattle.std.specs.Cmp.Lexicographic.{slice_cmp}
use Rattle.scip_query.specs.Tables.{IsTable}
use Rattle.scip_query.specs.Tables.Searches.{entry_symbol_listed}
use Rattle.scip_query.proofs.GroupLemmas.{gathered_same}
use Rattle.scip_query.proofs.tables.entries_by_symbol.Goals as goal

pub returns : goal.returns
returns c =
    let symbol_of = entry_symbol_listed c.args.index.now in
    IfOk-weaker c.by_group.result _ _
    (λ table its. subst (λ all. IsTable (on symbol_of (slice_cmp nat_cmp)) all table) c.in_ok-places.ensures
    (its symbol_of (gathered_same symbol_of c.as_slice.ensures.value c.in_ok-groups.ensures))) c.by_group.ensures
