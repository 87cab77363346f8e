use Rattle.std.proofs.Common.{sym}
use Rattle.scip_symbol.proofs.entity_text.push_front.Goals as goal

pub returns : goal.returns
returns c = rw (sym c.manager.ensures.value, sym c.name.ensures, sym c.version.ensures) c.push_parts.ensures
