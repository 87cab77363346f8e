use Rattle.std.proofs.Common.{◌≡◌, ◌+◌, get_or, refl, take, arith}
use Rattle.std.specs.List.{Contains}
use Rattle.proto_visibility.proofs.FileOrderLemmas.{first_and_next, with_both}
use Rattle.proto_visibility.proofs.file_order.FileOrder.add_files.Goals as goal

pub loop-number-preserved : goal.loop-number-preserved
loop-number-preserved c =
    let numbers = c.args.numbers.now in
    let index = c.loop-number.number-index in
    let next = get_or numbers index 0 in
    with_both c.args.self.now c.args.runs.now.items c.loop-number.runs.items c.add_file.new.runs.items
    (Contains (take index numbers)) (λ file. file ≡ next) (Contains (take (index + 1) numbers))
    c.loop-number.invariant c.in_ok-add_file.ensures (λ file. first_and_next numbers index next file (omega arith) refl)
