use Rattle.std.proofs.Common.{subst, sym}
use Rattle.programs.specs.Starting.{IsLineOf}
use Rattle.programs.proofs.ListedFolderLemmas.{line_is}
use Rattle.programs.proofs.listed_folders.line_of.Goals as goal

pub returns-in-Some : goal.returns-in-Some
returns-in-Some c =
    subst (IsLineOf c.args.listed.now c.args.path.now) (sym c.in-Some.ensures.1)
    (line_is c.args.listed.now c.loop-one.one-index c.one-item.result c.args.path.now c.loop-one-test.true
    c.one-item.is c.loop-one.invariant c.in-Some.ensures.0)
