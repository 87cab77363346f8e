use Rattle.std.proofs.Common.{◌∙◌, ap}
use Rattle.std.proofs.lemmas.Result.{IfOk-weaker}
use Rattle.clap.specs.Words.{App, with_subcommand}
use Rattle.command_line.specs.Program.{print_line, survey_line}
use Rattle.command_line.specs.declared.verb.Verb.TheVariants.{Lint, Stats}
use Rattle.command_line.proofs.program.with_surveying.Goals as goal

pub returns : goal.returns
returns c =
    IfOk-weaker c.with_program-3.result _ _ (λ d is.
    is ∙ ap (λ (a : App). with_subcommand a (survey_line Lint))
    (c.in_ok-printing.ensures print_line c.print_program.ensures.line c.print_program.ensures.local
    ∙ ap (λ (a : App). with_subcommand a print_line)
    (c.in_ok-counting.ensures (survey_line Stats) c.survey_program.ensures.line c.survey_program.ensures.local)))
    (c.with_program-3.ensures (survey_line Lint) c.survey_program-2.ensures.line c.survey_program-2.ensures.local)
