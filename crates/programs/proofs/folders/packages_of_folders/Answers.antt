use Rattle.std.proofs.lemmas.Result.{err_from_is_err_and}
use Rattle.programs.proofs.FolderLemmas.{bad_at, package_more}
use Rattle.programs.proofs.folders.packages_of_folders.Goals as goal

pub returns-in_err-package_of_folder-clause-bad : goal.returns-in_err-package_of_folder-clause-bad
returns-in_err-package_of_folder-clause-bad c =
    let p = err_from_is_err_and c.from_residual.result c.from_residual.ensures.1 in
    rw (p.1, p.2) (bad_at c.args.folders.now c.loop-folder.folder-index c.folder-item.result
    c.in_err-package_of_folder.field-0.0 c.loop-folder-test.true c.folder-item.is c.loop-folder.invariant.1
    c.in_err-package_of_folder.ensures.bad)

pub loop-folder-preserved : goal.loop-folder-preserved
loop-folder-preserved c =
    package_more c.args.folders.now c.loop-folder.folder-index c.folder-item.result c.loop-folder.ids.items
    c.push_package.new.ids.items c.in_ok-package_of_folder.field-0 c.loop-folder-test.true c.folder-item.is
    c.loop-folder.invariant c.in_ok-package_of_folder.ensures.named c.in_ok-push_package.ensures
