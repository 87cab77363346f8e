use Rattle.std.proofs.Common.{◌≡◌, ◌<◌, ◌≤◌, Some, length, get_or, refl, ap, sym, ◌∙◌, subst, arith, rules}
use Rattle.std.specs.List.{slice_get}
use Rattle.std.proofs.lemmas.Bool.{false≢true}
use Rattle.std.proofs.lemmas.Option.{slice_get_read}
use Rattle.proto_visibility.proofs.SeeingReachableLemmas.{reachable_at, is_broken, none_broken, read_more}
use Rattle.proto_visibility.proofs.seeing.first_unread.Goals as goal

pub offset_bounds-files-number : goal.offset_bounds-files-number
offset_bounds-files-number c =
    let within = reachable_at c.args.files.now c.args.reachable.now c.as_slice-number-items.result.now
    c.loop-number.number-index (λ n. (c.requires n).0) c.as_slice-number-items.ensures.value (omega arith) in
    search (rules, within)

pub bounds-files-number : goal.bounds-files-number
bounds-files-number c = reachable_at c.args.files.now c.args.reachable.now c.as_slice-number-items.result.now
    c.loop-number.number-index (λ n. (c.requires n).0) c.as_slice-number-items.ensures.value (omega arith)

pub returns-then-is_unread : goal.returns-then-is_unread
returns-then-is_unread c =
    let files = c.args.files.now in
    let row = c.args.reachable.now in
    let items = c.as_slice-number-items.result.now in
    let index = c.loop-number.number-index in
    let file = c.index-files-number.result in
    let are = c.as_slice-number-items.ensures.value in
    let within = reachable_at files row items index (λ n. (c.requires n).0) are (omega arith) in
    let stands : slice_get files (get_or items index 0) ≡ Some file =
    slice_get_read files (length files) (get_or items index 0) file refl within c.index-files-number.is in
    is_broken files row c.requires index (get_or items index 0) file c.as_slice-number-items.ensures.rising
    (subst (λ xs. index < length xs) are (omega arith))
    (ap (λ xs. get_or xs index 0) are) c.loop-number.invariant stands (c.is_unread.ensures.0 c.if-is_unread.true)

pub loop-number-preserved : goal.loop-number-preserved
loop-number-preserved c =
    let files = c.args.files.now in
    let row = c.args.reachable.now in
    let items = c.as_slice-number-items.result.now in
    let index = c.loop-number.number-index in
    let file = c.index-files-number.result in
    let are = c.as_slice-number-items.ensures.value in
    let within = reachable_at files row items index (λ n. (c.requires n).0) are (omega arith) in
    let stands : slice_get files (get_or items index 0) ≡ Some file =
    slice_get_read files (length files) (get_or items index 0) file refl within c.index-files-number.is in
    read_more files row c.requires index (get_or items index 0) file c.loop-number.invariant
    (ap (λ xs. get_or xs index 0) are) stands (λ e. false≢true (sym c.if-is_unread.false ∙ c.is_unread.ensures.1 e))

pub returns : goal.returns
returns c = none_broken c.args.files.now c.args.reachable.now c.requires c.loop-number.number-index
    (subst (λ xs. length xs ≤ c.loop-number.number-index) c.as_slice-number-items.ensures.value (omega arith))
    c.loop-number.invariant
