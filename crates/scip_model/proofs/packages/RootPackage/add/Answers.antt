use Rattle.std.proofs.Common.{◌∙◌, ◌++◌, ◌∷◌, [], ap, map, ℕ, Bool, List}
use Rattle.std.specs.Prelude.{if◌then◌else◌}
use Rattle.std.specs.String.{string_bytes}
use Rattle.std.specs.Str.{bytes_eq}
use Rattle.scip_model.specs.Packages.{Root, with_path}
use Rattle.scip_model.proofs.PackageLemmas.{any-of-map, more-text}
use Rattle.scip_model.proofs.packages.RootPackage.add.Goals as goal

pub returns-clause-paths : goal.returns-clause-paths
returns-clause-paths c =
    let keys = c.self.inside.paths.keys in
    let path = c.args.path in
    let texts : List (List ℕ) = map string_bytes keys in
    ap (map string_bytes) c.in_ok-insert.ensures.keys
    ∙ (more-text string_bytes _ keys path
    ∙ (ap (λ (b : Bool). if b then texts else texts ++ string_bytes path ∷ [])
    (any-of-map (bytes_eq (string_bytes path)) string_bytes keys)
    ∙ ap (λ (root : Root). with_path root.paths (string_bytes path)) c.self.view_is))
