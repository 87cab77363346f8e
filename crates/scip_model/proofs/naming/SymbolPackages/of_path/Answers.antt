use Rattle.std.proofs.Common.{◌∙◌, ap}
use Rattle.scip_model.specs.Packages.{package_of_path}
use Rattle.scip_model.specs.Repeated.{Naming}
use Rattle.scip_model.proofs.PackageLemmas.{whatever-repeated}
use Rattle.scip_model.proofs.naming.SymbolPackages.of_path.Goals as goal

pub returns : goal.returns
returns c =
    c.of_path.ensures
    ∙ (whatever-repeated c.self.inside.packages.now _ c.args.path.now
    ∙ ap (λ (named : Naming). package_of_path named.ids c.args.path.now) c.self.view_is)
