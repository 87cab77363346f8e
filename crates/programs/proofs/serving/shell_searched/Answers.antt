use Rattle.std.proofs.Common.{ℕ, List, ap, map, string_bytes, subst}
use Rattle.streams.specs.Readers.{reading}
use Rattle.streams.specs.Writers.{writing}
use Rattle.source_files.specs.Exclusions.{FindsWithout, ListsWithout}
use Rattle.programs.specs.NoSources.{NoneFoundBy}
use Rattle.programs.specs.Placing.{Place, place}
use Rattle.programs.specs.Searches.{blamed_by}
use Rattle.programs.specs.Serving.{AnswersNavigable, Served}
use Rattle.programs.proofs.serving.shell_searched.Goals as goal

pub returns-clause-served : goal.returns-clause-served
returns-clause-served g c =
    let files = c.args.host.now.files.now in
    let options = c.args.options.now in
    let report : Place _ _ = place g.Q.OutPlace g.Q.Part.Sink c.args.report.now c.shell.new.report in
    subst (λ (patterns : List (List ℕ)). Served c.args.host.now.manner
    (ListsWithout (g.F.ReadFiles.lists files) patterns)
    (g.F.ReadFiles.gives files) (FindsWithout (g.F.ReadFiles.finds files) patterns)
    (blamed_by options (g.F.LookAgain.blames files))
    (NoneFoundBy (g.F.LookAgain.passes files) c.args.host.now.is_watched options)
    (g.Q.OutPlace.suspects c.args.report.now) options report
    (reading g.I.Feed c.args.commands.now c.shell.new.commands)
    (writing g.W.Sink c.args.answers.now c.shell.new.answers)
    (writing g.M.Sink c.args.messages.now c.shell.new.messages) c.shell.result)
    (ap (map string_bytes) c.deref.ensures.value) c.shell.ensures.served

pub returns-clause-navigable : goal.returns-clause-navigable
returns-clause-navigable g c =
    let files = c.args.host.now.files.now in
    subst (λ (patterns : List (List ℕ)). AnswersNavigable c.args.host.now.manner
    (ListsWithout (g.F.ReadFiles.lists files) patterns)
    (g.F.ReadFiles.gives files) (FindsWithout (g.F.ReadFiles.finds files) patterns) c.args.options.now
    (reading g.I.Feed c.args.commands.now c.shell.new.commands)
    (writing g.W.Sink c.args.answers.now c.shell.new.answers) c.shell.result)
    (ap (map string_bytes) c.deref.ensures.value) c.shell.ensures.navigable
