use Rattle.std.proofs.Common.{◌∙◌, ap}
use Rattle.std.proofs.lemmas.Result.{IfOk-weaker}
use Rattle.clap.specs.Words.{App, with_subcommand}
use Rattle.command_line.specs.Program.{ask_line}
use Rattle.command_line.specs.declared.verb.Verb.TheVariants.{Def, Find, Hover, Outline, Ref}
use Rattle.command_line.proofs.program.with_asking.Goals as goal

pub returns : goal.returns
returns c =
    IfOk-weaker c.with_program-5.result _ _ (λ d is.
    is ∙ ap (λ (a : App). with_subcommand a (ask_line Find))
    (c.in_ok-outlining.ensures (ask_line Outline) c.ask_program-4.ensures.line c.ask_program-4.ensures.local
    ∙ ap (λ (a : App). with_subcommand a (ask_line Outline))
    (c.in_ok-hovering.ensures (ask_line Hover) c.ask_program-3.ensures.line c.ask_program-3.ensures.local
    ∙ ap (λ (a : App). with_subcommand a (ask_line Hover))
    (c.in_ok-referring.ensures (ask_line Ref) c.ask_program-2.ensures.line c.ask_program-2.ensures.local
    ∙ ap (λ (a : App). with_subcommand a (ask_line Ref))
    (c.in_ok-defining.ensures (ask_line Def) c.ask_program.ensures.line c.ask_program.ensures.local)))))
    (c.with_program-5.ensures (ask_line Find) c.ask_program-5.ensures.line c.ask_program-5.ensures.local)
