use Rattle.std.proofs.Common.{◌≡◌, true, Some}
use Rattle.std.specs.List.{slice_get}
use Rattle.proto_visibility.proofs.SeeingLemmas.{numbers_within}
use Rattle.proto_visibility.proofs.file_order.take_turn.Goals as goal

pub first_new-requires : goal.first_new-requires
first_new-requires c =
    let stands : slice_get c.args.table.now c.args.turn.file ≡ Some c.in-Some.steps.now = c.in-Some.ensures in
    numbers_within c.args.table.now c.args.turn.file c.in-Some.steps.now true c.args.search.now.files
    c.as_slice-public.result.now c.requires.within stands c.requires.files c.as_slice-public.ensures.value

pub go_on-requires-clause-next : goal.go_on-requires-clause-next
go_on-requires-clause-next c =
    let stands : slice_get c.args.table.now c.args.turn.file ≡ Some c.in-Some.steps.now = c.in-Some.ensures in
    numbers_within c.args.table.now c.args.turn.file c.in-Some.steps.now true c.args.search.now.files
    c.as_slice-public.result.now c.requires.within stands c.requires.files c.as_slice-public.ensures.value
    c.in-Some-first_new.index 0 c.in-Some-first_new.ensures.within
