use Rattle.std.proofs.Common.{◌++◌, map, ◌∙◌, ap}
use Rattle.proto_decl.specs.Laws.{component_names}
use Rattle.scip_symbol.specs.Entities.{OfPackage, namespace_of}
use Rattle.scip_symbol.proofs.EntityLemmas.{entity-has}
use Rattle.scip_symbol.proofs.entity.package_symbol.Goals as goal

pub symbol_with-requires : goal.symbol_with-requires
symbol_with-requires c =
    let e = entity-has (OfPackage (component_names c.args.components.now)) _ c.requires
    (c.in_ok-push_namespaces.ensures
    ∙ ap (λ l. l ++ map namespace_of (component_names c.args.components.now)) c.new-descriptors.ensures.items) in
    record { some = e.0; good = e.1 }
