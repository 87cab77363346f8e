use Rattle.std.proofs.Common.{arith}
use Rattle.option_link.proofs.PackageLemmas.{no_components, package_by}
use Rattle.option_link.proofs.packages.add_package.Goals as goal

pub returns-in-empty : goal.returns-in-empty
returns-in-empty c = no_components c.args.components.now c.args.marks.now.items (omega arith)

pub returns-in-len1-up : goal.returns-in-len1-up
returns-in-len1-up c =
    package_by c.args.components.now c.first-item.result c.add_behind.result c.args.marks.now.items c.add_behind.new.marks.items
    (omega arith) c.first-item.is c.add_behind.ensures
