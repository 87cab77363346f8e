use Rattle.scip_build.proofs.CertainUseLemmas.{certain_uses_resolve_alike}
use Rattle.scip_build.proofs.laws.certain_uses_resolve_alike.Goals as goal

pub returns : goal.returns
returns c = certain_uses_resolve_alike c.kept_files_are_clear.ensures c.certain_resolves_alike.ensures
