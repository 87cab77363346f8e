use Rattle.std.proofs.Common.{◌≡◌, ◌≤◌, Some, length, get_or, refl, ap, sym, ◌∙◌, subst, arith, rules}
use Rattle.std.specs.List.{slice_get}
use Rattle.std.proofs.lemmas.Option.{slice_get_read}
use Rattle.std.proofs.lemmas.Bool.{not-true}
use Rattle.proto_visibility.proofs.SeeingReachableLemmas.{reachable_at}
use Rattle.proto_visibility.proofs.ClashDifferingLemmas.{none_up_to, more_up_to, clear_by_numbers}
use Rattle.proto_visibility.proofs.DuplicateLemmas.{clear_of_all}
use Rattle.proto_visibility.proofs.clash.numbers_differ.Goals as goal

pub offset_bounds-files-number : goal.offset_bounds-files-number
offset_bounds-files-number c =
    let within = reachable_at c.args.files.now c.args.reachable.now c.as_slice-number-items.result.now
    c.loop-number.number-index (λ n. (c.requires.reachable n).0) c.as_slice-number-items.ensures.value (omega arith)
    in
    search (rules, within)

pub bounds-files-number : goal.bounds-files-number
bounds-files-number c = reachable_at c.args.files.now c.args.reachable.now c.as_slice-number-items.result.now
    c.loop-number.number-index (λ n. (c.requires.reachable n).0) c.as_slice-number-items.ensures.value (omega arith)

pub loop-number-init : goal.loop-number-init
loop-number-init c = none_up_to c.args.files.now c.args.reachable.now c.in_ok-numbers.numbers

pub loop-number-preserved : goal.loop-number-preserved
loop-number-preserved c =
    let files = c.args.files.now in
    let row = c.args.reachable.now in
    let items = c.as_slice-number-items.result.now in
    let index = c.loop-number.number-index in
    let file = c.index-files-number.result in
    let old = c.loop-number.numbers in
    let new = c.add_file.new.numbers in
    let are = c.as_slice-number-items.ensures.value in
    let within = reachable_at files row items index (λ n. (c.requires.reachable n).0) are (omega arith) in
    let stands : slice_get files (get_or items index 0) ≡ Some file =
    slice_get_read files (length files) (get_or items index 0) file refl within c.index-files-number.is in
    more_up_to files row index (get_or items index 0) file old new (ap (λ xs. get_or xs index 0) are) stands
    (c.in_ok-differ.ensures c.if-not-differ.false) c.loop-number.invariant

pub returns : goal.returns
returns c = λ differ duplicates. clear_of_all duplicates c.args.files.now
    (clear_by_numbers c.args.files.now c.args.prefixes.now c.args.reachable.now c.loop-number.numbers
    c.requires.reachable c.requires.prefixes c.loop-number.number-index
    (subst (λ xs. length xs ≤ c.loop-number.number-index) c.as_slice-number-items.ensures.value (omega arith))
    c.loop-number.invariant (sym c.has_package-shared.ensures ∙ not-true c.has_package-shared.result differ))
