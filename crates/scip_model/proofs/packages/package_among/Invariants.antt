use Rattle.std.proofs.Common.{◌≡◌, length}
use Rattle.scip_model.specs.Packages.{package_among}
use Rattle.scip_model.proofs.packages.package_among.Given as goal

-- none of the roots before has the path
abbrev pub invariant-loop-rest : goal.invariant-loop-rest
invariant-loop-rest l = package_among l.run l.path l.rest ≡ package_among l.run l.path l.roots

abbrev pub decreases-loop-rest : goal.decreases-loop-rest
decreases-loop-rest l = length l.rest
