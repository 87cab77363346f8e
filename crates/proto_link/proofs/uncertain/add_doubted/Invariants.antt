use Rattle.std.proofs.Common.{take}
use Rattle.proto_link.specs.Tables.Doubts.{Adds, IsDoubted}
use Rattle.proto_link.proofs.uncertain.add_doubted.Given as goal

abbrev pub invariant-loop-type_use : goal.invariant-loop-type_use
invariant-loop-type_use l =
    Adds (IsDoubted l.namespace l.file l.behind (take l.type_use-index l.uses)) l.fn.doubted.items l.doubted.items
