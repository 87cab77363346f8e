use Rattle.std.proofs.Common.{◌≡◌, ◌≤◌, ℕ, List, Some, length, get_or, take, refl, ap, sym, ◌∙◌}
use Rattle.std.proofs.Common.{subst, arith, rules}
use Rattle.std.specs.List.{slice_get}
use Rattle.std.proofs.lemmas.List.{take_all}
use Rattle.std.proofs.lemmas.Option.{slice_get_read, slice_get-get_or}
use Rattle.basics.proofs.FirstLemmas.{take_next}
use Rattle.proto_visibility.specs.Tables.Passes.{AreUnreadOmitted}
use Rattle.proto_visibility.proofs.SeeingReachableLemmas.{row_at}
use Rattle.proto_visibility.proofs.OmissionLemmas.{none_unread, unread_next}
use Rattle.proto_visibility.proofs.omissions.omit_unread.Goals as goal

pub loop-number-init : goal.loop-number-init
loop-number-init c = none_unread c.args.files.now c.args.omissions.now.items

pub offset_bounds-files-number : goal.offset_bounds-files-number
offset_bounds-files-number c =
    let within = row_at c.args.files.now c.args.row.now c.as_slice-number-items.result.now c.loop-number.number-index
    c.requires.within c.as_slice-number-items.ensures.value (omega arith) in
    search (rules, within)

pub bounds-files-number : goal.bounds-files-number
bounds-files-number c =
    row_at c.args.files.now c.args.row.now c.as_slice-number-items.result.now c.loop-number.number-index
    c.requires.within c.as_slice-number-items.ensures.value (omega arith)

pub omit_if_unread-requires : goal.omit_if_unread-requires
omit_if_unread-requires c =
    let within = row_at c.args.files.now c.args.row.now c.as_slice-number-items.result.now c.loop-number.number-index
    c.requires.within c.as_slice-number-items.ensures.value (omega arith) in
    omega (arith, within, c.loop-number.invariant.size, c.requires.one_each)

pub loop-number-preserved : goal.loop-number-preserved
loop-number-preserved c =
    let files = c.args.files.now in
    let row = c.args.row.now in
    let items = c.as_slice-number-items.result.now in
    let index = c.loop-number.number-index in
    let number = get_or items index 0 in
    let file = c.index-files-number.result in
    let old = c.args.omissions.now.items in
    let now = c.loop-number.omissions.items in
    let new = c.omit_if_unread.new.omissions.items in
    let are = c.as_slice-number-items.ensures.value in
    let within = row_at files row items index c.requires.within are (omega arith) in
    let stands : slice_get files number ≡ Some file =
    slice_get_read files (length files) number file refl within c.index-files-number.is in
    let in_items : slice_get items index ≡ Some number = slice_get-get_or items index 0 (omega arith) in
    let in_row : slice_get row index ≡ Some number = ap (λ (xs : List ℕ). slice_get xs index) (sym are) ∙ in_items in
    subst (λ r. AreUnreadOmitted files r old new) (sym (take_next row index number in_row))
    (unread_next files (take index row) number file stands old now new
    (omega (arith, within, c.loop-number.invariant.size, c.requires.one_each)) c.loop-number.invariant
    c.omit_if_unread.ensures.out c.omit_if_unread.ensures.stays)

pub returns : goal.returns
returns c =
    let row = c.args.row.now in
    let are = c.as_slice-number-items.ensures.value in
    let all : length row ≤ c.loop-number.number-index =
    subst (λ (xs : List ℕ). length xs ≤ c.loop-number.number-index) are (omega arith) in
    subst (λ r. AreUnreadOmitted c.args.files.now r c.args.omissions.now.items c.loop-number.omissions.items)
    (take_all c.loop-number.number-index row all) c.loop-number.invariant
