use Rattle.std.proofs.Common.{◌≡◌, ◌∙◌, ℕ, List, length, Some, None, refl, ap, sym, subst, cond}
use Rattle.std.specs.List.{slice_get}
use Rattle.std.specs.Str.{bytes_eq}
use Rattle.std.proofs.lemmas.Bool.{false≢true}
use Rattle.std.proofs.lemmas.Option.{slice_get_read, slice_get_within}
use Rattle.proto_visibility.specs.Clashes.{Item}
use Rattle.proto_visibility.specs.Kept.{Omissions, IsTakenBefore}
use Rattle.proto_visibility.specs.Tables.ClashTables.{clash_with, index_in}
use Rattle.proto_visibility.specs.Tables.Passes.{IsOpenAt}
use Rattle.proto_visibility.proofs.KeptOrderLemmas.{taken_one_way}
use Rattle.proto_visibility.proofs.PassLemmas.{same_kept, pass_closed, pass_new, pass_met}
use Rattle.proto_visibility.proofs.omissions.pass_item.Goals as goal

pub returns-then-not-is_kept : goal.returns-then-not-is_kept
returns-then-not-is_kept c = λ files placed start so_far.
    let items = c.args.items.now in
    let item = c.index-items-index.result in
    let index = c.args.index in
    let omissions = c.args.omissions.now.items in
    let at : slice_get items index ≡ Some item =
    slice_get_read items (length items) index item refl c.requires c.index-items-index.is in
    let file = ap (λ (i : Item). i.place.file) c.item.view_is in
    pass_closed (IsTakenBefore files) (taken_one_way files) items placed start index omissions c.args.names.now item at so_far
    (λ kept. false≢true (sym c.if-not-is_kept.true
    ∙ c.is_kept.ensures.1 (same_kept omissions c.as_slice.result.now item.place.file c.item.inside.place.file
    (sym c.as_slice.ensures.value) (sym file) kept)))

pub omit_if_clash-requires : goal.omit_if_clash-requires
omit_if_clash-requires c =
    let item = c.index-items-index.result in
    let omissions = c.args.omissions.now.items in
    let file = ap (λ (i : Item). i.place.file) c.item.view_is in
    slice_get_within omissions item.place.file None
    (same_kept c.as_slice.result.now omissions c.item.inside.place.file item.place.file c.as_slice.ensures.value file
    (c.is_kept.ensures.0 c.if-not-is_kept.false))

pub returns-in-Some : goal.returns-in-Some
returns-in-Some c = λ files placed start so_far.
    let items = c.args.items.now in
    let item = c.index-items-index.result in
    let index = c.args.index in
    let omissions = c.args.omissions.now.items in
    let names = c.args.names.now in
    let first = c.in-Some.first in
    let at : slice_get items index ≡ Some item =
    slice_get_read items (length items) index item refl c.requires c.index-items-index.is in
    let file = ap (λ (i : Item). i.place.file) c.item.view_is in
    let open_item = same_kept c.as_slice.result.now omissions c.item.inside.place.file item.place.file
    c.as_slice.ensures.value file (c.is_kept.ensures.0 c.if-not-is_kept.false) in
    let known : index_in names item.full_name ≡ Some first =
    ap (index_in names) (sym (ap (λ (i : Item). i.full_name) c.item.view_is)) ∙ c.in-Some.ensures.0 in
    let open_first = subst (λ (os : Omissions). IsOpenAt items os first) c.as_slice-2.ensures.value c.in-Some.ensures.1
    in
    pass_met (IsTakenBefore files) (taken_one_way files) items placed start index omissions names item at so_far first known open_first open_item
    c.omit_if_clash.new.omissions.items (clash_with items (Some first) item) refl c.omit_if_clash.ensures

pub returns-in_ok-insert-in-None : goal.returns-in_ok-insert-in-None
returns-in_ok-insert-in-None c = λ files placed start so_far.
    let items = c.args.items.now in
    let item = c.index-items-index.result in
    let index = c.args.index in
    let omissions = c.args.omissions.now.items in
    let names = c.args.names.now in
    let new = c.insert.new.self in
    let at : slice_get items index ≡ Some item =
    slice_get_read items (length items) index item refl c.requires c.index-items-index.is in
    let file = ap (λ (i : Item). i.place.file) c.item.view_is in
    let name = ap (λ (i : Item). i.full_name) c.item.view_is in
    let open_item = same_kept c.as_slice.result.now omissions c.item.inside.place.file item.place.file
    c.as_slice.ensures.value file (c.is_kept.ensures.0 c.if-not-is_kept.false) in
    let after = λ (other : List ℕ). subst
    (λ n. index_in new other ≡ cond (bytes_eq n other) (Some index) (index_in names other)) (c.copy.ensures ∙ name)
    (c.in_ok-insert-in-None.ensures.updates.0 other) in
    pass_new (IsTakenBefore files) (taken_one_way files) items placed start index omissions names item at so_far new open_item
    (λ k e its. c.in-None.ensures k (ap (index_in names) name ∙ e)
    (subst (λ (os : Omissions). IsOpenAt items os k) (sym c.as_slice-2.ensures.value) its)) after
