use Rattle.std.proofs.Common.{ap}
use Rattle.std.proofs.lemmas.Result.{IfOk-weaker}
use Rattle.scip_model.specs.Detailed.{detail_at, details_shown, text_around}
use Rattle.scip_model.proofs.AroundLemmas.{shown_unasked}
use Rattle.scip_model.proofs.symbol_texts.text_if_asked.Goals as goal

pub returns-in-Some : goal.returns-in-Some
returns-in-Some c =
    IfOk-weaker c.text_around.result _ _
    (λ text is index. ap (details_shown c.args.declaration.now (detail_at c.args.facts.now index)) is)
    c.text_around.ensures

pub returns-in-None : goal.returns-in-None
returns-in-None c = λ index.
    shown_unasked c.args.facts.now c.args.declaration.now index c.new.result
    (text_around c.args.home.now c.args.facts.now c.args.declaration.now) c.in-None.ensures
