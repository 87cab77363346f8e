use Rattle.scip_model.proofs.PieceRefusalLemmas.{one-refusal}
use Rattle.scip_model.proofs.laws.one_merge_refusal.Goals as goal

pub returns : goal.returns
returns c = one-refusal
