use Rattle.std.proofs.Common.{◌∙◌, [], ◌∷◌, List, ap, map, subst}
use Rattle.std.specs.String.{string_bytes}
use Rattle.scip_symbol.specs.Package.{Package}
use Rattle.scip_model.specs.Packages.{Packages, all_in}
use Rattle.programs.specs.Folders.{AddsRoots, roots_of}
use Rattle.programs.proofs.FolderLemmas.{by_folder}
use Rattle.programs.proofs.folders.packages_by.Goals as goal

pub returns-clause-by : goal.returns-clause-by
returns-clause-by c =
    let own = map string_bytes c.args.own.items in
    let others = map (λ here. map string_bytes here.items) c.args.others.items in
    let first = c.of_run-packages.result in
    let second = c.add_folder.new.packages in
    let third = c.add_folders.new.packages in
    let Of : Package → Packages = all_in in
    let Own : Package → Type 0 = λ id. AddsRoots (record { id = id; paths = own } ∷ []) first second in
    let Each : List Package → Type 0 = λ ids. AddsRoots (roots_of ids others) second third in
    by_folder c.args.options.now own others first second third
    (c.of_run-packages.ensures ∙ ap Of c.in_ok-package_of.ensures.named.0)
    (subst Own c.in_ok-package_of-2.ensures.named.0 c.in_ok-add_folder.ensures)
    (subst Each c.in_ok-all.ensures.all c.in_ok-add_folders.ensures) c.run.ensures.known
