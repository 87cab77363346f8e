use Rattle.std.proofs.Common.{◌≡◌, ◌<◌, ◌≤◌, Some, length, get_or, refl, ap, subst, arith, rules}
use Rattle.std.specs.List.{slice_get}
use Rattle.std.proofs.lemmas.Option.{slice_get_read}
use Rattle.proto_visibility.specs.Tables.ImportTables.{number_in}
use Rattle.proto_visibility.proofs.SeeingReachableLemmas.{reachable_at}
use Rattle.proto_visibility.proofs.AbsentLemmas.{none_absent, none_more, is_absent_place}
use Rattle.proto_visibility.proofs.absent.first_absent.Goals as goal

pub offset_bounds-files-number : goal.offset_bounds-files-number
offset_bounds-files-number c =
    let within = reachable_at c.args.files.now c.args.reachable.now c.as_slice-number-items.result.now
    c.loop-number.number-index (λ n. (c.requires.reachable n).0) c.as_slice-number-items.ensures.value (omega arith)
    in
    search (rules, within)

pub bounds-files-number : goal.bounds-files-number
bounds-files-number c = reachable_at c.args.files.now c.args.reachable.now c.as_slice-number-items.result.now
    c.loop-number.number-index (λ n. (c.requires.reachable n).0) c.as_slice-number-items.ensures.value (omega arith)

pub returns-in-Some : goal.returns-in-Some
returns-in-Some c =
    let files = c.args.files.now in
    let row = c.args.reachable.now in
    let items = c.as_slice-number-items.result.now in
    let index = c.loop-number.number-index in
    let file = c.index-files-number.result in
    let are = c.as_slice-number-items.ensures.value in
    let within = reachable_at files row items index (λ n. (c.requires.reachable n).0) are (omega arith) in
    let stands : slice_get files (get_or items index 0) ≡ Some file =
    slice_get_read files (length files) (get_or items index 0) file refl within c.index-files-number.is in
    is_absent_place files (number_in c.args.paths.now) c.requires.paths row c.requires.reachable index file
    (get_or items index 0) c.in-Some.span c.as_slice-number-items.ensures.rising
    (subst (λ xs. index < length xs) are (omega arith))
    (ap (λ xs. get_or xs index 0) are) stands c.loop-number.invariant c.in-Some.ensures.in_order
    c.in-Some.ensures.first

pub loop-number-preserved : goal.loop-number-preserved
loop-number-preserved c =
    let files = c.args.files.now in
    let row = c.args.reachable.now in
    let items = c.as_slice-number-items.result.now in
    let index = c.loop-number.number-index in
    let file = c.index-files-number.result in
    let are = c.as_slice-number-items.ensures.value in
    let within = reachable_at files row items index (λ n. (c.requires.reachable n).0) are (omega arith) in
    let stands : slice_get files (get_or items index 0) ≡ Some file =
    slice_get_read files (length files) (get_or items index 0) file refl within c.index-files-number.is in
    none_more files (number_in c.args.paths.now) c.requires.paths row c.requires.reachable index file
    (get_or items index 0) (ap (λ xs. get_or xs index 0) are) stands c.in_default.ensures.first
    c.loop-number.invariant

pub returns : goal.returns
returns c = none_absent c.args.files.now
    (number_in c.args.paths.now) c.requires.paths c.args.reachable.now c.requires.reachable
    c.loop-number.number-index
    (subst (λ xs. length xs ≤ c.loop-number.number-index) c.as_slice-number-items.ensures.value (omega arith))
    c.loop-number.invariant
