use Rattle.std.proofs.Common.{◌∙◌}
use Rattle.scip_symbol.proofs.EntityLemmas.{global-is}
use Rattle.scip_symbol.proofs.entity.symbol_with.Goals as goal

pub from_parts-requires : goal.from_parts-requires
from_parts-requires c =
    global-is c.args.id.now _ _ _ _ _ c.args.descriptors.items c.manager.ensures.known c.in_ok-scheme.ensures
    (c.in_ok-manager.ensures ∙ c.manager.ensures.value) (c.in_ok-name.ensures ∙ c.name.ensures)
    (c.in_ok-version.ensures ∙ c.version.ensures)
    c.from_vec.ensures c.requires.some c.requires.good
