use Rattle.option_link.proofs.LoopLemmas.{ok_as}
use Rattle.option_link.specs.Packages.{AddsFile, AddsPackages}
use Rattle.option_link.proofs.PackageLemmas.{file_added, nothing_added}
use Rattle.option_link.proofs.packages.add_file.Goals as goal

pub returns-in-Some : goal.returns-in-Some
returns-in-Some c =
    let old = c.args.marks.now.items in
    let new = c.add_package.new.marks.items in
    let components = c.package_name.result.now in
    ok_as c.add_package.result (λ u. AddsPackages components old new)
    (λ u. AddsFile c.args.linker.now c.args.file old new)
    (λ u adds. file_added c.args.linker.now c.args.file c.in-Some.facts.now components old new c.in-Some.ensures
    c.package_name.ensures adds) c.add_package.ensures

pub returns-in-None : goal.returns-in-None
returns-in-None c = nothing_added c.args.linker.now c.args.file c.args.marks.now.items c.in-None.ensures
