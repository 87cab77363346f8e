use Rattle.std.proofs.Common.{◌∙◌, arith, sym, take}
use Rattle.std.proofs.lemmas.List.{length-take-le}
use Rattle.scip_pages.proofs.ColumnUnitLemmas.{counts_utf8}
use Rattle.scip_pages.proofs.columns.offset_of.Goals as goal

pub offset_from-requires-clause-counted : goal.offset_from-requires-clause-counted
offset_from-requires-clause-counted c =
    let start = c.min-start.result in
    rw c.in-Utf8.is (sym (counts_utf8 (take start c.args.line.now)
    ∙ length-take-le start c.args.line.now (omega (arith, c.min-start.ensures))))
