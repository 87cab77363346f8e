use Rattle.std.proofs.Common.{◌++◌, map, ◌∙◌, ap}
use Rattle.proto_decl.specs.Laws.{component_names}
use Rattle.scip_symbol.specs.Entities.{OfDeclaration, namespace_of, step_descriptor}
use Rattle.scip_symbol.proofs.EntityLemmas.{entity-has}
use Rattle.scip_symbol.proofs.entity.symbol_of.Goals as goal

pub symbol_with-requires : goal.symbol_with-requires
symbol_with-requires c =
    let first = c.in_ok-push_namespaces.ensures
    ∙ ap (λ l. l ++ map namespace_of (component_names c.args.components.now)) c.new-descriptors.ensures.items in
    let e = entity-has (OfDeclaration (component_names c.args.components.now) c.args.path.now) _ c.requires
    (c.in_ok-push_path.ensures ∙ ap (λ l. l ++ map step_descriptor c.args.path.now) first) in
    record { some = e.0; good = e.1 }
