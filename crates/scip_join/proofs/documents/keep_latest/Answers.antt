use Rattle.std.proofs.Common.{rules}
use Rattle.std.proofs.lemmas.Fn.{dedup_same}
use Rattle.scip_join.specs.Tables.{has_same_path}
use Rattle.scip_join.proofs.documents.keep_latest.Goals as goal

pub returns : goal.returns
returns c = dedup_same _ has_same_path _ (λ x y b f' x' y' k. search rules) _ _ c.dedup_by.ensures.filtered
