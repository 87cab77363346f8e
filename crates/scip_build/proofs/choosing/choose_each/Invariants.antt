-- The choices for the declarations so far.
use Rattle.std.proofs.Common.{take}
use Rattle.scip_build.specs.ParsedFiles.{AreChosen}
use Rattle.scip_build.proofs.choosing.choose_each.Given as goal

abbrev pub invariant-loop-declaration : goal.invariant-loop-declaration
invariant-loop-declaration g l =
    AreChosen (g.C.Chooses.allows l.chooser) (take l.declaration-index l.declarations) l.choices.items
