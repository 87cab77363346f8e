use Rattle.std.proofs.Common.{◌∙◌}
use Rattle.scip_model.proofs.AroundLemmas.{beside_same}
use Rattle.scip_model.proofs.symbol_texts.text_around_next.Goals as goal

pub returns-then-are_beside : goal.returns-then-are_beside
returns-then-are_beside c =
    c.requires ∙ beside_same c.args.home.now c.args.facts.now c.args.before.now c.args.declaration.now
    (c.are_beside.ensures c.if-are_beside.true)
