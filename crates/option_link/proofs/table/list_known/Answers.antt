use Rattle.std.proofs.Common.{length}
use Rattle.option_link.specs.Tables.{Adds, AddsUpTo, name_hash}
use Rattle.option_link.proofs.LoopLemmas.{ok_as}
use Rattle.option_link.proofs.TableLemmas.{adds_all, adds_nothing}
use Rattle.option_link.proofs.table.list_known.Goals as goal

pub returns-in-Some : goal.returns-in-Some
returns-in-Some c =
    let old = c.args.listed.now.items in
    let new = c.list_file.new.listed.items in
    let declarations = c.declarations.result.now in
    ok_as c.list_file.result (λ u. AddsUpTo name_hash c.args.file declarations (length declarations) old new)
    (λ u. Adds c.args.linker.now c.args.file old new)
    (λ u all. adds_all c.args.linker.now c.args.file c.in-Some.facts.now declarations old new c.in-Some.ensures
    c.declarations.ensures all) c.list_file.ensures

pub returns-in-None : goal.returns-in-None
returns-in-None c = adds_nothing c.args.linker.now c.args.file c.args.listed.now.items c.in-None.ensures
