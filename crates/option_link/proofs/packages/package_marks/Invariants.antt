use Rattle.option_link.proofs.PackageLemmas.{HasPackagesUpTo}
use Rattle.option_link.proofs.packages.package_marks.Given as goal

abbrev pub invariant-loop-file : goal.invariant-loop-file
invariant-loop-file l = HasPackagesUpTo l.linker l.file l.marks.items
