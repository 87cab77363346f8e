use Rattle.std.proofs.Common.{◌∙◌, sym, ap}
use Rattle.scip_model.specs.Detailed.{path_around}
use Rattle.scip_model.proofs.AroundLemmas.{path_front}
use Rattle.scip_model.proofs.symbol_texts.are_beside.Goals as goal

pub returns : goal.returns
returns c = λ is.
    let a = ap path_around (sym c.path.ensures ∙ c.parts.ensures)
    ∙ path_front c.parts.result.0.now c.parts.result.1.now in
    let b = ap path_around (sym c.path-2.ensures ∙ c.parts-2.ensures)
    ∙ path_front c.parts-2.result.0.now c.parts-2.result.1.now in
    a ∙ (c.are_same_steps.ensures is ∙ sym b)
