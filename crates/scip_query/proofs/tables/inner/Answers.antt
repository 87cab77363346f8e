use Rattle.std.proofs.Common.{◌≡◌, ◌<◌, ◌∙◌, ap, sym, ◌+◌, ◌++◌, ◌∷◌, [], take, length}
use Rattle.std.proofs.lemmas.List.{take_more}
use Rattle.basics.proofs.ListLemmas.{zip_push as zipped_more}
use Rattle.scip_query.specs.Tables.Searches.{IsInnermostFirst}
use Rattle.scip_query.proofs.tables.inner.Goals as goal

pub loop-document-preserved : goal.loop-document-preserved
loop-document-preserved c =
    let documents = c.args.documents.now in
    let at = c.loop-document.document-index in
    let inside : at < length documents = c.loop-document-test.true in
    let document = c.document-item.result in
    let more : take (at + 1) documents ≡ take at documents ++ document ∷ [] =
    take_more documents at document inside ∙ ap (λ d. take at documents ++ d ∷ []) (sym c.document-item.is) in
    rw (more, c.in_ok-push.ensures.items)
    (zipped_more IsInnermostFirst
    (take at documents) c.loop-document.tables.items document c.in_ok-inner_of.field-0 c.loop-document.invariant
    c.in_ok-inner_of.ensures)
