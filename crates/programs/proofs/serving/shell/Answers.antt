use Rattle.std.specs.Option.{option_map}
use Rattle.std.specs.String.{string_bytes}
use Rattle.std.proofs.Common.{◌≡◌, ◌∙◌, ap, refl, subst, sym, ℕ, List, Option, Result}
use Rattle.std.specs.Prelude.{IfErr}
use Rattle.streams.specs.Readers.{reading}
use Rattle.streams.specs.Writers.{writing}
use Rattle.proto_parse.specs.dialect.Dialect.{Dialect}
use Rattle.index_hooks.specs.declared.choice.DocChoice.{DocChoice}
use Rattle.scip_build.specs.declared.settings.Settings.{Settings}
use Rattle.programs.specs.Choices.{IsChosenBy}
use Rattle.programs.specs.Messages.{TellsOfSuccess}
use Rattle.programs.specs.NoSources.{NoneFoundBy}
use Rattle.programs.specs.Searches.{blamed_by}
use Rattle.programs.specs.Settings.{settings_in}
use Rattle.programs.specs.Limits.{no_limits}
use Rattle.programs.specs.Placing.{place}
use Rattle.programs.specs.Reporting.{Reports, ran_of, told_by}
use Rattle.programs.specs.Serving.{not_begun, not_started, over_tree}
use Rattle.programs.specs.Settled.{settled}
use Rattle.programs.specs.TreeRuns.{Ends}
use Rattle.programs.proofs.TreeRunOmissionLemmas.{ends_of}
use Rattle.basics.proofs.EqualLemmas.{moved4}
use Rattle.programs.proofs.ServingNavigableLemmas.{answers}
use Rattle.programs.proofs.ReportingLemmas.{reported_files, reported_of, settled_files}
use Rattle.protoscip.specs.Explanations.{explain_in}
use Rattle.protoscip.specs.FaultLines.{HasFilesOf}
use Rattle.protoscip.specs.declared.fault.Fault.{Fault}
use Rattle.protoscip.specs.declared.recorded.Recorded.{Recorded}
use Rattle.protoscip.specs.Sessions.{Serves}
use Rattle.programs.proofs.serving.shell.Goals as goal

pub returns-in-Err-clause-served : goal.returns-in-Err-clause-served
returns-in-Err-clause-served g c =
    not_started c.in-Err.fault c.put_start_report-said.result c.in-Err.ensures.stops
    (record { unread = refl; unwritten = refl }) c.put_start_report-said.ensures c.report_unstarted.ensures

-- the report can't go to its place

pub returns-in-Err-see_report-clause-served : goal.returns-in-Err-see_report-clause-served
returns-in-Err-see_report-clause-served g c =
    let run = c.in-Ok.start in
    not_begun run.tree run.unread.items run.settings.package c.in-Err-see_report.fault
    c.in-Ok.ensures.named c.in-Ok.ensures.folders
    c.in-Err-see_report.ensures.stops (record { unread = refl; unwritten = refl }, refl) c.report_start.ensures

pub returns-clause-served : goal.returns-clause-served
returns-clause-served g c =
    let run = c.in-Ok.start in
    let line = option_map string_bytes run.none_found in
    let messages = writing g.M.Sink c.args.messages.now c.end.new.messages in
    let options = c.args.options.now in
    let unread = run.unread.items in
    let report = place g.Q.OutPlace g.Q.Part.Sink c.args.report.now c.report_run-reported.new.at in
    let ran = c.session_in-ran.result in
    let reported = c.report_run-reported.result in
    let By : Option (List ℕ) → Option DocChoice → Settings → ℕ → Type 0 = λ only doc settings workers.
    Serves c.args.host.now.manner (reading g.I.Feed c.args.commands.now c.session_in-ran.new.commands)
    (writing g.W.Sink c.args.answers.now
    c.session_in-ran.new.answers) (IsChosenBy only doc) settings run.tree workers ran in
    let Told : Option (List ℕ) → Option DocChoice → Settings → ℕ → Type 0 = λ only doc settings workers.
    Reports report c.args.options.now.report no_limits (IsChosenBy only doc) settings workers run.tree unread
    (told_by ran) reported in
    let Ended : Option Dialect → Type 0 = λ explain.
    Ends TellsOfSuccess (λ l. l ≡ line) explain options.is_real run.tree unread (λ r. r.told) (settled ran reported)
    messages
    c.end.result in
    over_tree run.tree unread run.settings.package ran reported c.in-Ok.ensures.named c.in-Ok.ensures.folders
    c.in-Ok-see_report.ensures.apart
    (moved4 By c.in-Ok.ensures.only c.in-Ok.ensures.doc c.in-Ok.ensures.settings
    (c.over-work.ensures ∙ c.in-Ok.ensures.workers) c.session_in-ran.ensures.served)
    (moved4 Told c.in-Ok.ensures.only c.in-Ok.ensures.doc c.in-Ok.ensures.settings c.in-Ok.ensures.workers
    (reported_of ran _ _ (λ told_is. Reports report c.args.options.now.report no_limits
    (IsChosenBy (option_map (λ f. string_bytes f.promise.0) run.choices.filter)
    (option_map (λ r. r.promise.0) run.choices.rule)) run.settings run.workers run.tree unread told_is reported)
    c.told_in.ensures c.fault_in.ensures c.report_run-reported.ensures))
    (ends_of TellsOfSuccess
    (NoneFoundBy (g.F.LookAgain.passes c.args.host.now.files.now) c.args.host.now.is_watched options run.tree)
    (explain_in options.explain (settings_in options run.settings.package).dialect) options.is_real run.tree messages
    c.end.result
    unread (λ r. r.told) (settled ran reported) line c.in-Ok.ensures.none_found (subst Ended
    (c.explain_in.ensures
    ∙ ap (λ (s : Settings). explain_in options.explain s.dialect) c.in-Ok.ensures.settings)
    (rw c.settle-done.ensures at c.end.ensures)))

-- what is so in either case

pub returns-in-Err-clause-navigable : goal.returns-in-Err-clause-navigable
returns-in-Err-clause-navigable g c =
    answers c.args.host.now.manner (g.F.ReadFiles.lists c.args.host.now.files.now)
    (g.F.ReadFiles.gives c.args.host.now.files.now) (g.F.ReadFiles.finds c.args.host.now.files.now)
    c.args.options.now c.headline_of_options.ensures.files
    (blamed_by c.args.options.now (g.F.LookAgain.blames c.args.host.now.files.now))
    (NoneFoundBy (g.F.LookAgain.passes c.args.host.now.files.now) c.args.host.now.is_watched
    c.args.options.now) (g.Q.OutPlace.suspects c.args.report.now)
    (place g.Q.OutPlace g.Q.Part.Sink c.args.report.now c.put_start_report-said.new.at)
    (reading g.I.Feed c.args.commands.now c.args.commands.now)
    (writing g.W.Sink c.args.answers.now c.args.answers.now)
    (writing g.M.Sink c.args.messages.now c.report_unstarted.new.messages) c.report_unstarted.result
    (returns-in-Err-clause-served g c)

pub returns-in-Err-see_report-clause-navigable : goal.returns-in-Err-see_report-clause-navigable
returns-in-Err-see_report-clause-navigable g c =
    answers c.args.host.now.manner (g.F.ReadFiles.lists c.args.host.now.files.now)
    (g.F.ReadFiles.gives c.args.host.now.files.now) (g.F.ReadFiles.finds c.args.host.now.files.now)
    c.args.options.now c.headline_of_options.ensures.files
    (blamed_by c.args.options.now (g.F.LookAgain.blames c.args.host.now.files.now))
    (NoneFoundBy (g.F.LookAgain.passes c.args.host.now.files.now) c.args.host.now.is_watched
    c.args.options.now) (g.Q.OutPlace.suspects c.args.report.now)
    (place g.Q.OutPlace g.Q.Part.Sink c.args.report.now c.args.report.now)
    (reading g.I.Feed c.args.commands.now c.args.commands.now)
    (writing g.W.Sink c.args.answers.now c.args.answers.now)
    (writing g.M.Sink c.args.messages.now c.report_start.new.messages) c.report_start.result
    (returns-in-Err-see_report-clause-served g c)

pub returns-clause-navigable : goal.returns-clause-navigable
returns-clause-navigable g c =
    answers c.args.host.now.manner (g.F.ReadFiles.lists c.args.host.now.files.now)
    (g.F.ReadFiles.gives c.args.host.now.files.now) (g.F.ReadFiles.finds c.args.host.now.files.now)
    c.args.options.now c.headline_of_options.ensures.files
    (blamed_by c.args.options.now (g.F.LookAgain.blames c.args.host.now.files.now))
    (NoneFoundBy (g.F.LookAgain.passes c.args.host.now.files.now) c.args.host.now.is_watched
    c.args.options.now) (g.Q.OutPlace.suspects c.args.report.now)
    (place g.Q.OutPlace g.Q.Part.Sink c.args.report.now c.report_run-reported.new.at)
    (reading g.I.Feed c.args.commands.now c.session_in-ran.new.commands)
    (writing g.W.Sink c.args.answers.now c.session_in-ran.new.answers)
    (writing g.M.Sink c.args.messages.now c.end.new.messages) c.end.result
    (returns-clause-served g c)

-- each fault names files of the tree

pub end-requires-clause-files : goal.end-requires-clause-files
end-requires-clause-files g c =
    let run = c.in-Ok.start in
    let report = place g.Q.OutPlace g.Q.Part.Sink c.args.report.now c.report_run-reported.new.at in
    let allows = IsChosenBy (option_map (λ f. string_bytes f.promise.0) run.choices.filter)
    (option_map (λ r. r.promise.0) run.choices.rule) in
    let reported = c.report_run-reported.result in
    subst (λ (r : Result Recorded Fault). IfErr r (HasFilesOf run.tree)) (sym c.settle-done.ensures)
    (settled_files run.tree c.session_in-ran.result reported c.session_in-ran.ensures.files
    (reported_files report c.args.options.now.report no_limits allows run.settings run.workers run.tree
    run.unread.items (ran_of c.told_in.result.now c.fault_in.result) reported
    c.report_run-reported.ensures))
