use Rattle.std.proofs.Common.{◌≡◌, ◌<◌, ◌≤◌, ◌+◌, ◌++◌, Some, length, get_or, refl, ap, sym, subst, arith, rules}
use Rattle.std.specs.List.{slice_get}
use Rattle.std.proofs.lemmas.Option.{slice_get_read}
use Rattle.proto_visibility.specs.Tables.ClashTables.{AreInPlace}
use Rattle.proto_visibility.specs.Tables.FileItems.{ArePrefixes, package_name_of}
use Rattle.proto_visibility.proofs.SeeingReachableLemmas.{row_at}
use Rattle.proto_visibility.proofs.ItemAllLemmas.{AreItemsUpTo, items_more, order_more, items_all}
use Rattle.proto_visibility.proofs.items.all_items.Goals as goal

pub offset_bounds-files-number : goal.offset_bounds-files-number
offset_bounds-files-number c =
    let within = row_at c.args.files.now c.args.row.now c.as_slice-number-items.result.now
    c.loop-number.number-index c.requires.within c.as_slice-number-items.ensures.value (omega arith)
    in
    search (rules, within)

pub bounds-files-number : goal.bounds-files-number
bounds-files-number c = row_at c.args.files.now c.args.row.now c.as_slice-number-items.result.now
    c.loop-number.number-index c.requires.within c.as_slice-number-items.ensures.value (omega arith)

pub offset_bounds-prefixes-number : goal.offset_bounds-prefixes-number
offset_bounds-prefixes-number c =
    let within = row_at c.args.files.now c.args.row.now c.as_slice-number-items.result.now
    c.loop-number.number-index c.requires.within c.as_slice-number-items.ensures.value (omega arith)
    in
    let inside : get_or c.as_slice-number-items.result.now c.loop-number.number-index 0 < length c.args.prefixes.now =
    omega (arith, c.requires.prefixes.one_each) in
    search (rules, inside)

pub bounds-prefixes-number : goal.bounds-prefixes-number
bounds-prefixes-number c =
    let within = row_at c.args.files.now c.args.row.now c.as_slice-number-items.result.now
    c.loop-number.number-index c.requires.within c.as_slice-number-items.ensures.value (omega arith)
    in
    omega (arith, c.requires.prefixes.one_each)

pub items_of_file-requires : goal.items_of_file-requires
items_of_file-requires c =
    let files = c.args.files.now in
    let all = c.args.prefixes.now in
    let number = get_or c.as_slice-number-items.result.now c.loop-number.number-index 0 in
    let file = c.index-files-number.result in
    let its = c.index-prefixes-number.result in
    let within = row_at files c.args.row.now c.as_slice-number-items.result.now c.loop-number.number-index
    c.requires.within c.as_slice-number-items.ensures.value (omega arith) in
    let stands : slice_get files number ≡ Some file =
    slice_get_read files (length files) number file refl within c.index-files-number.is in
    let its_stand : slice_get all number ≡ Some its =
    slice_get_read all (length files) number its
    (sym c.requires.prefixes.one_each) within c.index-prefixes-number.is in
    subst (ArePrefixes (package_name_of file)) (sym c.as_slice.ensures)
    (c.requires.prefixes.each number file its stands its_stand)

pub loop-number-preserved : goal.loop-number-preserved
loop-number-preserved c =
    let files = c.args.files.now in
    let row = c.args.row.now in
    let index = c.loop-number.number-index in
    let number = get_or c.as_slice-number-items.result.now index 0 in
    let file = c.index-files-number.result in
    let are = c.as_slice-number-items.ensures.value in
    let items = c.loop-number.items.items in
    let more = c.in_ok-more.more.items in
    let within = row_at files row c.as_slice-number-items.result.now index c.requires.within are
    (omega arith) in
    let stands : slice_get files number ≡ Some file =
    slice_get_read files (length files) number file refl within c.index-files-number.is in
    let is = ap (λ xs. get_or xs index 0) are in
    let inside : index < length row = subst (λ xs. index < length xs) are (omega arith) in
    let both : c.append.new.self.items ≡ items ++ more = c.in_ok-append.ensures.items in
    record {
      order = subst AreInPlace (sym both)
          (order_more files row index number file items more c.as_slice-number-items.ensures.rising inside is
          c.in_ok-more.ensures.items c.loop-number.invariant.items c.loop-number.invariant.order
          c.in_ok-more.ensures.order);
      items = subst (AreItemsUpTo files row (index + 1)) (sym both)
          (items_more files row index number file items more is stands c.in_ok-more.ensures.items
          c.loop-number.invariant.items);
    }

pub returns-clause-items : goal.returns-clause-items
returns-clause-items c =
    let row = c.args.row.now in
    let are = c.as_slice-number-items.ensures.value in
    let all : length row ≤ c.loop-number.number-index =
    subst (λ xs. length xs ≤ c.loop-number.number-index) are (omega arith) in
    let upto : c.loop-number.number-index ≤ length row =
    subst (λ xs. c.loop-number.number-index ≤ length xs) are (omega arith) in
    items_all c.args.files.now row c.loop-number.number-index c.loop-number.items.items all upto
    c.loop-number.invariant.items
