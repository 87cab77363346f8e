use Rattle.std.proofs.Common.{◌≡◌, Some, rules, ap, ◌∙◌}
use Rattle.std.specs.List.{slice_get}
use Rattle.std.proofs.lemmas.Option.{slice_get-get_or}
use Rattle.proto_visibility.proofs.FileOrderLemmas.{with_one}
use Rattle.proto_visibility.proofs.file_order.FileOrder.add_file.Goals as goal

pub unwrap-place-requires : goal.unwrap-place-requires
unwrap-place-requires c =
    let there = c.requires in
    let stands : slice_get c.args.self.now there.0 ≡ Some c.args.number =
    slice_get-get_or c.args.self.now there.0 c.args.number there.1 ∙ ap Some there.2 in
    let is = (c.rank_of.ensures there.0).0 stands in
    search (rules, is)

pub returns : goal.returns
returns c =
    with_one c.args.self.now c.args.runs.now.items c.push.new.self.items c.unwrap-place.result c.args.number
    ((c.rank_of.ensures c.unwrap-place.result).1 c.unwrap-place.ensures) c.in_ok-push.ensures.items
