use Rattle.std.proofs.Common.{◌++◌, ◌∙◌, ap, sym}
use Rattle.std.specs.String.{string_bytes}
use Rattle.std.proofs.lemmas.Result.{on_ok_weaker}
use Rattle.scip_query.specs.MoreViews.{more_view}
use Rattle.scip_query.specs.MoreAnswers.{text_of}
use Rattle.scip_query.proofs.AnswerLemmas.{more_text}
use Rattle.scip_query.proofs.queries.Queries.push_more.Goals as goal

pub returns : goal.returns
returns c =
    let old = string_bytes c.args.text.now in
    on_ok_weaker c.push_answer.result
    (λ e. e ∙ ap (λ a. old ++ text_of a) c.in_ok-answer.ensures
    ∙ ap (λ l. old ++ l) (sym (more_text c.args.self.now (more_view c.args.command.now))))
    c.push_answer.ensures
