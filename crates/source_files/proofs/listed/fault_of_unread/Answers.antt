use Rattle.std.proofs.Common.{arith}
use Rattle.source_files.proofs.UnreadLemmas.{some_once}
use Rattle.source_files.proofs.listed.fault_of_unread.Goals as goal

pub swap_remove-requires : goal.swap_remove-requires
swap_remove-requires c =
    omega (
      arith,
      some_once c.args.paths.items c.in-Ok.sorted.items c.requires c.in-Ok.ensures,
      c.in-Ok.sorted.ok.0,
    )
