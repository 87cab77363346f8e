use Rattle.std.proofs.Common.{◌∙◌, ◌++◌, ◌∷◌, [], List, ap, sym, subst, take, append_assoc}
use Rattle.std.specs.List.{AllZip}
use Rattle.std.proofs.lemmas.List.Elements.{All-get_or}
use Rattle.basics.proofs.ListLemmas.{zip_push as AllZip-push}
use Rattle.proto_parse.specs.tree.Heading.{Heading}
use Rattle.proto_decl.specs.Detailed.{IsDetail}
use Rattle.proto_decl.specs.Signatures.{HasTokenAt}
use Rattle.proto_decl.specs.Spans.{OfHeading}
use Rattle.proto_decl.specs.declared.declaration.Outline.{Outline}
use Rattle.proto_decl.specs.declared.detail.Detail.{Detail}
use Rattle.proto_decl.proofs.DetailLemmas.{one_taken}
use Rattle.proto_decl.proofs.detail.push_details.Goals as goal

pub detail_of-requires-clause-tokens : goal.detail_of-requires-clause-tokens
detail_of-requires-clause-tokens c =
    let P : Outline → Type 0 = λ outline. OfHeading (HasTokenAt c.args.lexed.now) outline.heading in
    subst (OfHeading (HasTokenAt c.args.lexed.now)) (sym c.heading-heading.ensures)
    (subst P (sym c.outline-item.is)
    (All-get_or P c.args.outlines.now c.loop-outline.outline-index c.outline-item.result c.loop-outline-test.true
    c.requires))

pub loop-outline-preserved : goal.loop-outline-preserved
loop-outline-preserved c = λ before all.
    let outlines = c.args.outlines.now in
    let i = c.loop-outline.outline-index in
    let outline = c.outline-item.result in
    let R : Outline → Detail → Type 0 = λ o d. IsDetail c.args.lexed.now o.heading d in
    let detail = c.in_ok-detail.detail in
    let old = c.loop-outline.detailed.details.items in
    let is : R outline detail = subst (λ (heading : Heading). IsDetail c.args.lexed.now heading detail)
    c.heading-heading.ensures c.in_ok-detail.ensures in
    rw c.in_ok-push.ensures.items
    (subst (λ (os : List Outline). AllZip R os (old ++ detail ∷ []))
    (append_assoc before (take i outlines) (outline ∷ [])
    ∙ ap (λ (os : List Outline). before ++ os)
    (one_taken outlines i outline c.loop-outline-test.true c.outline-item.is))
    (AllZip-push R (before ++ take i outlines) old outline detail (c.loop-outline.invariant before all) is))
