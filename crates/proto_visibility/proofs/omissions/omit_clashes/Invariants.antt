use Rattle.std.proofs.Common.{List}
use Rattle.proto_visibility.specs.Files.{File}
use Rattle.proto_visibility.specs.Kept.{Omissions, IsTakenBefore}
use Rattle.proto_visibility.specs.Tables.ClashTables.{AreInPlaceBy}
use Rattle.proto_visibility.specs.Tables.Passes.{ArePassed}
use Rattle.proto_visibility.proofs.omissions.omit_clashes.Given as goal

abbrev pub invariant-loop-index : goal.invariant-loop-index
invariant-loop-index l = (files : List File) → AreInPlaceBy (IsTakenBefore files) l.items → (start : Omissions)
    → ArePassed (IsTakenBefore files) l.items start l.from l.fn.omissions.items l.fn.names
    → ArePassed (IsTakenBefore files) l.items start l.index l.omissions.items l.names
