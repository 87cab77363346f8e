use Rattle.std.proofs.Common.{◌∙◌, ap}
use Rattle.std.proofs.lemmas.Result.{IfOk-weaker}
use Rattle.clap.specs.Words.{App, with_subcommand}
use Rattle.command_line.specs.Program.{dump_line, index_line, join_line, pages_line, query_line, shell_line}
use Rattle.command_line.specs.Program.{snapshot_line, with_asking, with_surveying}
use Rattle.command_line.proofs.program.program.Goals as goal

pub returns : goal.returns
returns c =
    let lists = c.args.lists in
    let dump = dump_line lists in
    let index = index_line lists in
    let shell = shell_line lists in
    IfOk-weaker c.with_surveying.result _ _ (λ d is.
    is ∙ ap with_surveying (c.in_ok-asking.ensures ∙ ap with_asking
    (c.in_ok-dumping.ensures dump c.dump_program.ensures.line c.dump_program.ensures.local
    ∙ ap (λ (a : App). with_subcommand a dump)
    (c.in_ok-joining.ensures join_line c.join_program.ensures.line c.join_program.ensures.local
    ∙ ap (λ (a : App). with_subcommand a join_line)
    (c.in_ok-paging.ensures pages_line c.pages_program.ensures.line c.pages_program.ensures.local
    ∙ ap (λ (a : App). with_subcommand a pages_line)
    (c.in_ok-showing.ensures snapshot_line c.snapshot_program.ensures.line c.snapshot_program.ensures.local
    ∙ ap (λ (a : App). with_subcommand a snapshot_line)
    (c.in_ok-querying.ensures query_line c.query_program.ensures.line c.query_program.ensures.local
    ∙ ap (λ (a : App). with_subcommand a query_line)
    (c.in_ok-serving.ensures shell c.shell_program.ensures.line c.shell_program.ensures.local
    ∙ ap (λ (a : App). with_subcommand a shell)
    (c.in_ok-indexing.ensures index c.index_program.ensures.line c.index_program.ensures.local
    ∙ ap (λ (a : App). with_subcommand a index) c.no_program.ensures)))))))))
    c.with_surveying.ensures
