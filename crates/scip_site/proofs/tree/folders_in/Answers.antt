use Rattle.std.proofs.Common.{◌∙◌, ap, ℕ, List, map}
use Rattle.std.specs.Borrow.{Bor}
use Rattle.scip_site.proofs.TreeLemmas.{but_last_named}
use Rattle.scip_site.proofs.tree.folders_in.Goals as goal

pub returns : goal.returns
returns c = ap (map (λ (n : Bor (List ℕ)). n.now)) c.but_last.ensures ∙ but_last_named c.args.names.now
