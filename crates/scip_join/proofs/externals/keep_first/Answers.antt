use Rattle.std.proofs.Common.{rules}
use Rattle.std.proofs.lemmas.Fn.{dedup_same}
use Rattle.scip_join.specs.Tables.{has_same_symbol}
use Rattle.scip_join.proofs.externals.keep_first.Goals as goal

pub returns : goal.returns
returns c = dedup_same _ has_same_symbol _ (λ x y b f' x' y' k. search rules) _ _ c.dedup_by.ensures.filtered
