use Rattle.std.proofs.Common.{◌++◌, ◌∙◌, ap, map}
use Rattle.scip_records.specs.Texts.{unless_empty}
use Rattle.scip_query.specs.Answers.{Texts}
use Rattle.scip_query.specs.CommandViews.{text_of}
use Rattle.scip_query.proofs.answers.some_text.Goals as goal

pub returns : goal.returns
returns c =
    ap Texts (c.in_ok-push_unless_empty.ensures
    ∙ ap (λ l. map text_of l ++ unless_empty c.args.text.now) c.new-texts.ensures.items)
