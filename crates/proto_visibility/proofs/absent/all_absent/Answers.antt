use Rattle.std.proofs.Common.{◌≡◌, ◌∙◌, ◌≤◌, ◌++◌, List, ℕ, Option, Some, length, get_or, refl, sym, ap, subst, arith}
use Rattle.std.proofs.Common.{rules}
use Rattle.std.specs.List.{slice_get}
use Rattle.std.proofs.lemmas.Option.{slice_get_read, slice_get-get_or}
use Rattle.proto_visibility.specs.Files.{File}
use Rattle.proto_visibility.specs.Tables.ImportTables.{number_in, absents_of, absents_at}
use Rattle.proto_visibility.proofs.SeeingReachableLemmas.{reachable_at}
use Rattle.proto_visibility.proofs.AbsentLemmas.{given_next, all_in_order, all_missing}
use Rattle.proto_visibility.proofs.absent.all_absent.Goals as goal

pub offset_bounds-files-number : goal.offset_bounds-files-number
offset_bounds-files-number c =
    let within = reachable_at c.args.files.now c.args.reachable.now c.as_slice-number-items.result.now
    c.loop-number.number-index (λ n. (c.requires.reachable n).0) c.as_slice-number-items.ensures.value (omega arith)
    in
    search (rules, within)

pub bounds-files-number : goal.bounds-files-number
bounds-files-number c = reachable_at c.args.files.now c.args.reachable.now c.as_slice-number-items.result.now
    c.loop-number.number-index (λ n. (c.requires.reachable n).0) c.as_slice-number-items.ensures.value (omega arith)

pub loop-number-preserved : goal.loop-number-preserved
loop-number-preserved c =
    let files = c.args.files.now in
    let row = c.args.reachable.now in
    let names = number_in c.args.paths.now in
    let items = c.as_slice-number-items.result.now in
    let index = c.loop-number.number-index in
    let file = c.index-files-number.result in
    let number = get_or items index 0 in
    let are = c.as_slice-number-items.ensures.value in
    let within = reachable_at files row items index (λ n. (c.requires.reachable n).0) are (omega arith) in
    let stands : slice_get files number ≡ Some file =
    slice_get_read files (length files) number file refl within c.index-files-number.is in
    let old = c.loop-number.places.items in
    let added = c.in_ok-add_absent.ensures ∙ ap (λ (of : Option File). old ++ absents_of names number of) (sym stands)
    in
    let in_items : slice_get items index ≡ Some number = slice_get-get_or items index 0 (omega arith) in
    let in_row : slice_get row index ≡ Some number = ap (λ (xs : List ℕ). slice_get xs index) (sym are) ∙ in_items in
    given_next (absents_at files names) row index number old c.add_absent.new.places.items in_row
    c.loop-number.invariant added

pub returns : goal.returns
returns c =
    all_missing c.args.files.now
    (number_in c.args.paths.now) c.requires.paths c.args.reachable.now c.requires.reachable
    c.as_slice-number-items.ensures.rising
    (all_in_order c.args.files.now
    (λ k facts has. c.facts_in_order.ensures.imports facts (c.have_origins.ensures k facts has)))
    c.loop-number.number-index c.loop-number.places.items
    (subst (λ (xs : List ℕ). length xs ≤ c.loop-number.number-index) c.as_slice-number-items.ensures.value
    (omega arith)) c.loop-number.invariant
