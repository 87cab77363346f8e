use Rattle.std.proofs.Common.{◌∙◌, ap}
use Rattle.std.specs.List.{list_any}
use Rattle.std.specs.String.{string_bytes}
use Rattle.std.specs.Str.{bytes_eq}
use Rattle.scip_model.specs.Repeated.{Home}
use Rattle.scip_model.proofs.PackageLemmas.{any-of-map}
use Rattle.scip_model.proofs.RepeatedNameLemmas.{in-chosen}
use Rattle.scip_model.proofs.naming.Home.repeats.Goals as goal

pub returns-in-Some : goal.returns-in-Some
returns-in-Some c =
    c.contains.ensures
    ∙ (any-of-map (bytes_eq c.args.full_name.now) string_bytes c.in-Some.names.now.keys
    ∙ (in-chosen _ (bytes_eq c.args.full_name.now) _ _ c.in-Some.is
    ∙ ap (λ (home : Home). list_any (bytes_eq c.args.full_name.now) home.repeated) c.self.view_is))
