use Rattle.std.proofs.Common.{◌∙◌, ap, arith, [], map}
use Rattle.std.proofs.lemmas.List.{take_all}
use Rattle.std.specs.List.{flat_map}
use Rattle.scip_query.specs.MoreViews.{outlined_view}
use Rattle.scip_query.specs.Tables.Outlines.{outlined_at}
use Rattle.scip_query.specs.Views.{named_view}
use Rattle.scip_query.proofs.OutlineLemmas.{outlined_are, pieces_more}
use Rattle.scip_query.proofs.queries.Queries.outline_in.Goals as goal

pub loop-occurrence-preserved : goal.loop-occurrence-preserved
loop-occurrence-preserved c =
    pieces_more (outlined_at c.args.self.now (named_view c.args.named)) c.as_slice-occurrence-items.result.now
    c.loop-occurrence.occurrence-index c.occurrence-item.result [] (map outlined_view c.loop-occurrence.outline.items)
    (map outlined_view c.push_outlined.new.outline.items) c.loop-occurrence-test.true c.occurrence-item.is
    c.loop-occurrence.invariant c.in_ok-push_outlined.ensures

pub returns : goal.returns
returns c =
    let items = c.as_slice-occurrence-items.result.now in
    let all = take_all c.loop-occurrence.occurrence-index items (omega arith) in
    c.loop-occurrence.invariant
    ∙ ap (flat_map (outlined_at c.args.self.now (named_view c.args.named)))
    (all ∙ c.as_slice-occurrence-items.ensures)
    ∙ outlined_are c.args.self.now (named_view c.args.named) c.args.named.document.now.occurrences
