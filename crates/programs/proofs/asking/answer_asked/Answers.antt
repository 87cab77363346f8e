use Rattle.std.proofs.Common.{◌∙◌, Bool, subst, sym}
use Rattle.streams.specs.Writers.{writing}
use Rattle.programs.specs.AskedOnce.{EndsBy}
use Rattle.programs.proofs.asking.answer_asked.Goals as goal

pub returns-then-surveys : goal.returns-then-surveys
returns-then-surveys g c =
    subst (λ (surveys : Bool). EndsBy (g.F.ReadFiles.gives c.args.host.now.files.now) g.W.Caused.cause
    c.args.options.now c.args.queries.now surveys (writing g.W.Sink c.args.out.now c.survey.new.out)
    (writing g.M.Sink c.args.messages.now c.survey.new.messages) c.survey.result)
    (sym c.if-surveys.true ∙ c.surveys.ensures) c.survey.ensures

pub returns-else-surveys : goal.returns-else-surveys
returns-else-surveys g c =
    subst (λ (surveys : Bool). EndsBy (g.F.ReadFiles.gives c.args.host.now.files.now) g.W.Caused.cause
    c.args.options.now c.args.queries.now surveys (writing g.W.Sink c.args.out.now c.answer_question.new.out)
    (writing g.M.Sink c.args.messages.now c.answer_question.new.messages) c.answer_question.result)
    (sym c.if-surveys.false ∙ c.surveys.ensures) c.answer_question.ensures
