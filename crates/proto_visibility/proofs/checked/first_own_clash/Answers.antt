use Rattle.std.proofs.Common.{◌≡◌, ◌≤◌, ◌<◌, Some, length, get_or, refl, ap, sym, ◌∙◌, subst, arith, rules}
use Rattle.std.specs.List.{slice_get}
use Rattle.std.proofs.lemmas.Option.{slice_get_read}
use Rattle.proto_visibility.specs.Tables.FileItems.{ArePrefixes, package_name_of}
use Rattle.proto_visibility.proofs.SeeingReachableLemmas.{reachable_at}
use Rattle.proto_visibility.proofs.DuplicateLemmas.{no_own_clash, none_by, none_own_more, own_clash_at, some_by}
use Rattle.proto_visibility.proofs.checked.first_own_clash.Goals as goal

pub loop-number-init : goal.loop-number-init
loop-number-init c = λ k h. absurd (omega (arith, h))

pub offset_bounds-files-number : goal.offset_bounds-files-number
offset_bounds-files-number c =
    let within = reachable_at c.args.files.now c.args.reachable.now c.as_slice-number-items.result.now
    c.loop-number.number-index (λ n. (c.requires.reachable n).0) c.as_slice-number-items.ensures.value (omega arith)
    in
    search (rules, within)

pub bounds-files-number : goal.bounds-files-number
bounds-files-number c = reachable_at c.args.files.now c.args.reachable.now c.as_slice-number-items.result.now
    c.loop-number.number-index (λ n. (c.requires.reachable n).0) c.as_slice-number-items.ensures.value (omega arith)

pub offset_bounds-prefixes-number : goal.offset_bounds-prefixes-number
offset_bounds-prefixes-number c =
    let within = reachable_at c.args.files.now c.args.reachable.now c.as_slice-number-items.result.now
    c.loop-number.number-index (λ n. (c.requires.reachable n).0) c.as_slice-number-items.ensures.value (omega arith)
    in
    let inside : get_or c.as_slice-number-items.result.now c.loop-number.number-index 0 < length c.args.prefixes.now =
    omega (arith, c.requires.prefixes.one_each) in
    search (rules, inside)

pub bounds-prefixes-number : goal.bounds-prefixes-number
bounds-prefixes-number c =
    let within = reachable_at c.args.files.now c.args.reachable.now c.as_slice-number-items.result.now
    c.loop-number.number-index (λ n. (c.requires.reachable n).0) c.as_slice-number-items.ensures.value (omega arith)
    in
    omega (arith, c.requires.prefixes.one_each)

pub own_clash-requires : goal.own_clash-requires
own_clash-requires c =
    let files = c.args.files.now in
    let all = c.args.prefixes.now in
    let number = get_or c.as_slice-number-items.result.now c.loop-number.number-index 0 in
    let file = c.index-files-number.result in
    let its = c.index-prefixes-number.result in
    let within = reachable_at files c.args.reachable.now c.as_slice-number-items.result.now
    c.loop-number.number-index (λ n. (c.requires.reachable n).0) c.as_slice-number-items.ensures.value (omega arith)
    in
    let stands : slice_get files number ≡ Some file =
    slice_get_read files (length files) number file refl within c.index-files-number.is in
    let its_stand : slice_get all number ≡ Some its =
    slice_get_read all (length files) number its
    (sym c.requires.prefixes.one_each) within c.index-prefixes-number.is in
    subst (ArePrefixes (package_name_of file)) (sym c.as_slice.ensures)
    (c.requires.prefixes.each number file its stands its_stand)

pub loop-number-preserved : goal.loop-number-preserved
loop-number-preserved c =
    let files = c.args.files.now in
    let row = c.args.reachable.now in
    let items = c.as_slice-number-items.result.now in
    let index = c.loop-number.number-index in
    let number = get_or items index 0 in
    let file = c.index-files-number.result in
    let are = c.as_slice-number-items.ensures.value in
    let within = reachable_at files row items index (λ n. (c.requires.reachable n).0) are (omega arith) in
    let stands : slice_get files number ≡ Some file =
    slice_get_read files (length files) number file refl within c.index-files-number.is in
    none_own_more files row c.requires.reachable index number file (ap (λ xs. get_or xs index 0) are) stands
    (none_by number file c.in_ok-own.own (sym c.is_some.ensures ∙ c.if-is_some.false) c.in_ok-own.ensures) c.loop-number.invariant

pub returns-then-is_some : goal.returns-then-is_some
returns-then-is_some c =
    let files = c.args.files.now in
    let row = c.args.reachable.now in
    let items = c.as_slice-number-items.result.now in
    let index = c.loop-number.number-index in
    let number = get_or items index 0 in
    let file = c.index-files-number.result in
    let are = c.as_slice-number-items.ensures.value in
    let within = reachable_at files row items index (λ n. (c.requires.reachable n).0) are (omega arith) in
    let stands : slice_get files number ≡ Some file =
    slice_get_read files (length files) number file refl within c.index-files-number.is in
    some_by files number file c.in_ok-own.own (sym c.is_some.ensures ∙ c.if-is_some.true) c.in_ok-own.ensures (λ first second clash.
    own_clash_at files row c.requires.reachable index number file first second
    c.as_slice-number-items.ensures.rising (subst (λ xs. index < length xs) are (omega arith))
    (ap (λ xs. get_or xs index 0) are) stands clash c.loop-number.invariant)

pub returns : goal.returns
returns c =
    let are = c.as_slice-number-items.ensures.value in
    no_own_clash c.args.files.now c.args.reachable.now c.requires.reachable c.loop-number.number-index
    (subst (λ xs. length xs ≤ c.loop-number.number-index) are (omega arith)) c.loop-number.invariant
