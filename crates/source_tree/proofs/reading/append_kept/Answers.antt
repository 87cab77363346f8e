use Rattle.std.proofs.Common.{◌≡◌, ◌+◌, ◌-◌, ◌≤◌, length, arith}
use Rattle.std.proofs.lemmas.Grind.{common_steps}
use Rattle.source_tree.specs.Reading.{max_kept_length}
use Rattle.source_tree.proofs.ReadingLemmas.{kept_bytes-fits, kept_bytes-cut}
use Rattle.source_tree.proofs.reading.append_kept.Goals as goal

pub returns-then-part-space : goal.returns-then-part-space
returns-then-part-space c =
    let fits : length c.args.bytes.now.items + length c.args.part.now ≤ max_kept_length = grind (arith, common_steps) in
    rw (kept_bytes-fits c.args.bytes.now.items c.args.part.now fits) (grind (arith, common_steps))

pub returns-else-part-space : goal.returns-else-part-space
returns-else-part-space c =
    let cut : length c.args.bytes.now.items + (max_kept_length - length c.args.bytes.now.items) ≡ max_kept_length =
    omega (arith, c.requires) in
    rw (kept_bytes-cut c.args.bytes.now.items c.args.part.now (max_kept_length - length c.args.bytes.now.items) cut)
    (grind (arith, common_steps))
