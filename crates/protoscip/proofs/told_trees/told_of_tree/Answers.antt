use Rattle.std.proofs.Common.{refl}
use Rattle.std.proofs.lemmas.Result.{err_from_is_err_and}
use Rattle.protoscip.proofs.HeadlineFileLemmas.{files_of_built}
use Rattle.scip_build.specs.declared.built.Built.{Built}
use Rattle.protoscip.specs.ToldTrees.{skipping, telling}
use Rattle.protoscip.proofs.FindingLemmas.{stops_so, told_alike}
use Rattle.protoscip.proofs.told_trees.told_of_tree.Goals as goal

-- where the tree isn't built

pub returns-in_err-built-clause-stops : goal.returns-in_err-built-clause-stops
returns-in_err-built-clause-stops g c =
    let p = err_from_is_err_and c.from_residual.result c.from_residual.ensures.1 in
    rw (p.1, p.2) (stops_so (g.C.Chooses.allows c.args.chooser.now) c.args.settings.now c.telling-settings.result
    c.args.tree.now c.args.run.now.workers c.in_err-built.field-0.0 c.telling-settings.ensures
    c.in_err-built.ensures.refused)

-- where it is

pub returns-clause-told : goal.returns-clause-told
returns-clause-told g c =
    let of = rw c.telling-settings.ensures at c.in_ok-built.ensures.built in
    let allows = g.C.Chooses.allows c.args.chooser.now in
    let set = c.args.settings.now in
    let built : Built =
    record { index = of.index; choices = c.in_ok-built.built.choices; told = c.in_ok-built.built.told } in
    record {
      built = built;
      is = of.built;
      told_is = refl;
      alone = λ other is_other. c.one_told.ensures (skipping set) (telling set) c.args.tree.now other built
          (told_alike set) is_other of.built;
    }

pub returns-clause-files : goal.returns-clause-files
returns-clause-files g c =
    let of = c.in_ok-built.ensures.built in
    files_of_built (g.C.Chooses.allows c.args.chooser.now) c.telling-settings.result c.args.tree.now
    (record { index = of.index; choices = c.in_ok-built.built.choices; told = c.in_ok-built.built.told }) of.built
