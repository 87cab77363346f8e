use Rattle.std.proofs.Common.{◌++◌, [], ◌∷◌, ◌∙◌, ap}
use Rattle.scip_symbol.specs.Entities.{OfFile, namespace_of}
use Rattle.scip_symbol.proofs.EntityLemmas.{entity-has}
use Rattle.scip_symbol.proofs.entity.file_symbol.Goals as goal

pub symbol_with-requires : goal.symbol_with-requires
symbol_with-requires c =
    let e = entity-has (OfFile c.args.path.now) _ c.requires
    (c.in_ok-push_namespace.ensures
    ∙ ap (λ l. l ++ namespace_of c.args.path.now ∷ []) c.new-descriptors.ensures.items) in
    record { some = e.0; good = e.1 }
