use Rattle.std.proofs.Common.{◌∙◌, ap}
use Rattle.std.specs.List.{list_any}
use Rattle.std.specs.String.{string_bytes}
use Rattle.std.specs.Str.{bytes_eq}
use Rattle.scip_model.specs.Packages.{Root}
use Rattle.scip_model.proofs.PackageLemmas.{any-of-map}
use Rattle.scip_model.proofs.packages.RootPackage.has.Goals as goal

pub returns : goal.returns
returns c =
    c.contains.ensures
    ∙ (any-of-map (bytes_eq c.args.path.now) string_bytes c.self.inside.paths.keys
    ∙ ap (λ (root : Root). list_any (bytes_eq c.args.path.now) root.paths) c.self.view_is)
