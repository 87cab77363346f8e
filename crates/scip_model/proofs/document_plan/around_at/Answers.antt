use Rattle.std.proofs.Common.{◌∙◌, sym, ap, [], List, ℕ, Option}
use Rattle.std.specs.Option.{unwrap_or}
use Rattle.std.proofs.lemmas.Option.{unwrap_or-slice_get}
use Rattle.scip_model.proofs.document_plan.around_at.Goals as goal

pub returns-in-None : goal.returns-in-None
returns-in-None c =
    ap (λ (text : Option (List ℕ)). unwrap_or text []) (sym c.in-None.ensures)
    ∙ unwrap_or-slice_get c.args.arounds.now c.args.index []
