use Rattle.std.proofs.Common.{◌≡◌, ◌∙◌, ◌++◌, ◌+◌, [], List, ap, sym, subst, take}
use Rattle.std.specs.List.{All, AllZip, flat_map}
use Rattle.std.proofs.lemmas.List.{flat_map_more}
use Rattle.std.proofs.lemmas.List.Elements.{All-get_or}
use Rattle.proto_parse.specs.tree.FileItem.{FileItem}
use Rattle.proto_decl.specs.Detailed.{IsDetail}
use Rattle.proto_decl.specs.Signatures.{HasTokenAt}
use Rattle.proto_decl.specs.Spans.{OfHeading}
use Rattle.proto_decl.specs.Walked.{in_item}
use Rattle.proto_decl.specs.declared.declaration.Outline.{Outline}
use Rattle.proto_decl.specs.declared.detail.Detail.{Detail}
use Rattle.proto_decl.proofs.DetailLemmas.{one_taken}
use Rattle.proto_decl.proofs.WalkedLemmas.{outlines_are}
use Rattle.proto_decl.proofs.detail.details_at.Goals as goal

pub push_details-requires : goal.push_details-requires
push_details-requires c =
    let P : Outline → Type 0 = λ outline. OfHeading (HasTokenAt c.args.lexed.now) outline.heading in
    let headed = λ (item : FileItem). All P (in_item c.args.text.now c.args.surrounding.now item) in
    let its = subst headed (sym c.item-item.is)
    (All-get_or headed c.args.items.now c.loop-item.item-index c.item-item.result c.loop-item-test.true
    c.requires.tokens) in
    subst (λ (os : List Outline). All P os) (sym (c.as_slice.ensures.value ∙ c.in_ok-found.ensures.outlines)) its

pub loop-item-preserved : goal.loop-item-preserved
loop-item-preserved c =
    let items = c.args.items.now in
    let text = c.args.text.now in
    let around = c.args.surrounding.now in
    let i = c.loop-item.item-index in
    let item = c.item-item.result in
    let declares = in_item text around in
    let R : Outline → Detail → Type 0 = λ o d. IsDetail c.args.lexed.now o.heading d in
    let front = flat_map declares (take i items) in
    let new = c.push_details.new.detailed.details.items in
    let before = subst (λ (os : List Outline). AllZip R os c.loop-item.detailed.details.items)
    (sym (outlines_are text around (take i items))) c.loop-item.invariant in
    let found = c.as_slice.ensures.value ∙ c.in_ok-found.ensures.outlines in
    let more : front ++ c.as_slice.result.now ≡ flat_map declares (take (i + 1) items) =
    ap (λ (os : List Outline). front ++ os) found
    ∙ (flat_map_more declares [] (take i items) item
    ∙ ap (flat_map declares) (one_taken items i item c.loop-item-test.true c.item-item.is)) in
    subst (λ (os : List Outline). AllZip R os new) (more ∙ outlines_are text around (take (i + 1) items))
    (c.in_ok-push_details.ensures front before)
