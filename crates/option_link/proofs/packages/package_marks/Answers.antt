use Rattle.std.proofs.Common.{arith}
use Rattle.option_link.proofs.PackageLemmas.{packages_none, packages_more, packages_all}
use Rattle.option_link.proofs.packages.package_marks.Goals as goal

pub loop-file-init : goal.loop-file-init
loop-file-init c = packages_none c.args.linker.now c.in_ok-marks.marks.items

pub loop-file-preserved : goal.loop-file-preserved
loop-file-preserved c =
    packages_more c.args.linker.now c.loop-file.file c.loop-file.marks.items c.add_file.new.marks.items
    c.in_ok-add_file.ensures c.loop-file.invariant

pub returns : goal.returns
returns c =
    packages_all c.args.linker.now c.loop-file.file c.loop-file.marks.items (omega (arith, c.count-file-end.ensures))
    c.loop-file.invariant
