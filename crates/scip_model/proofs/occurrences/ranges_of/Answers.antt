use Rattle.std.proofs.Common.{◌∙◌, ◌++◌, ◌∷◌, [], ap, sym, subst, map, take, List}
use Rattle.std.proofs.lemmas.List.{map_more, map_push}
use Rattle.std.proofs.lemmas.List.Elements.{All-get_or}
use Rattle.proto_lex.specs.declared.span.Span.{Span}
use Rattle.proto_decl.specs.Laws.{IsWhole}
use Rattle.proto_decl.specs.declared.detail.Detail.{Detail}
use Rattle.scip_records.specs.Range.{RangeNumbers}
use Rattle.scip_model.specs.Occurs.{range_over}
use Rattle.scip_model.proofs.ConditionLemmas.{all_of_map}
use Rattle.scip_model.proofs.occurrences.ranges_of.Goals as goal

pub range_over-requires : goal.range_over-requires
range_over-requires c =
    let text = c.args.maker.now.text.now in
    let P : Detail → Type 0 = λ detail. IsWhole text detail.extent in
    subst P (sym c.detail-item.is)
    (All-get_or P c.args.details.now c.loop-detail.detail-index c.detail-item.result c.loop-detail-test.true
    (all_of_map (IsWhole text) (λ (detail : Detail). detail.extent) c.args.details.now c.requires))

pub loop-detail-preserved : goal.loop-detail-preserved
loop-detail-preserved c =
    let details = c.args.details.now in
    let i = c.loop-detail.detail-index in
    let over = range_over c.args.maker.now.encoding c.args.maker.now.text.now in
    let extent : Detail → Span = λ detail. detail.extent in
    let front = map extent (take i details) in
    c.in_ok-push.ensures.items
    ∙ (ap (λ (ranges : List RangeNumbers). ranges ++ c.range_over.result ∷ []) c.loop-detail.invariant
    ∙ (ap (λ (range : RangeNumbers). map over front ++ range ∷ [])
    (c.range_over.ensures ∙ ap (λ (detail : Detail). over detail.extent) c.detail-item.is)
    ∙ (sym (map_push over front _)
    ∙ ap (map over) (sym (map_more extent details i c.detail-item.result c.loop-detail-test.true)))))
