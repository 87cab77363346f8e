use Rattle.std.proofs.Common.{◌∙◌, ap, sym, map}
use Rattle.std.specs.String.{string_bytes}
use Rattle.scip_model.specs.Packages.{naming, path_if_there}
use Rattle.scip_model.specs.Repeated.{Naming, home_of_file}
use Rattle.scip_model.proofs.PackageLemmas.{whatever-repeated, by_its_path}
use Rattle.scip_model.proofs.RepeatedNameLemmas.{got-of, home-is}
use Rattle.scip_model.proofs.naming.SymbolPackages.home_of.Goals as goal

pub returns : goal.returns
returns c =
    let number = c.args.number in
    let files = c.self.inside.linker.now in
    let packages = c.self.inside.packages.now in
    let repeated = map (λ names. map string_bytes names.keys) c.self.inside.repeated.items in
    let path = c.path_of-path.result.now in
    let has = c.path_of-path.ensures in
    home-is
    (c.of_path.ensures
    ∙ (whatever-repeated packages repeated path ∙ by_its_path files (naming packages repeated) path number has))
    (sym (ap path_if_there has.1 ∙ has.2))
    (got-of (λ names. map string_bytes names.keys) c.deref.result.now c.self.inside.repeated.items number c.get.result
    c.deref.ensures.value c.get.ensures.lookup)
    ∙ ap (λ (named : Naming). home_of_file named.files named.ids number) c.self.view_is
