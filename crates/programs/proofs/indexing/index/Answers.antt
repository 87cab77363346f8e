use Rattle.std.proofs.Common.{◌≡◌, refl, ℕ, List, Option}
use Rattle.std.specs.Option.{option_map}
use Rattle.std.specs.String.{string_bytes}
use Rattle.streams.specs.Writers.{writing}
use Rattle.index_hooks.specs.declared.choice.DocChoice.{DocChoice}
use Rattle.scip_build.specs.declared.settings.Settings.{Settings}
use Rattle.programs.specs.Choices.{IsChosenBy}
use Rattle.programs.specs.Indexing.{IndexesInto, not_started, over_tree}
use Rattle.programs.specs.NoSources.{NoneFoundBy}
use Rattle.programs.specs.Placing.{place}
use Rattle.programs.specs.Searches.{blamed_by}
use Rattle.programs.specs.Settings.{allowed_by, settings_in}
use Rattle.basics.proofs.EqualLemmas.{moved4}
use Rattle.programs.proofs.ServingNavigableLemmas.{writes}
use Rattle.programs.proofs.TreeRunLemmas.{into_of}
use Rattle.programs.proofs.indexing.index.Goals as goal

pub returns-in-Err-clause-indexed : goal.returns-in-Err-clause-indexed
returns-in-Err-clause-indexed g c =
    not_started c.in-Err.fault c.put_start_report-said.result c.is_out-is_out.result c.in-Err.ensures.stops refl
    c.is_out-is_out.ensures c.put_start_report-said.ensures c.report_unstarted.ensures

pub returns-clause-indexed : goal.returns-clause-indexed
returns-clause-indexed g c =
    let run = c.in-Ok.start in
    let asked = c.args.request.now in
    let options = asked.options in
    let unread = run.unread.items in
    let at = place g.P.OutPlace g.P.Part.Sink c.args.places.now.file c.index_over-status.new.places.file in
    let report = place g.Q.OutPlace g.Q.Part.Sink c.args.places.now.report c.index_over-status.new.places.report in
    let messages = writing g.M.Sink c.args.messages.now c.index_over-status.new.messages in
    let Into : Option (List ℕ) → Option DocChoice → Settings → ℕ → Type 0 = λ only doc settings workers.
    IndexesInto (λ _ line. line ≡ option_map string_bytes run.none_found) asked (IsChosenBy only doc) settings workers
    run.tree unread at report messages c.index_over-status.result in
    over_tree run.tree unread run.settings.package c.in-Ok.ensures.named c.in-Ok.ensures.folders
    (into_of (NoneFoundBy (g.F.LookAgain.passes c.args.host.now.files.now) c.args.host.now.is_watched options) asked
    (allowed_by options) (settings_in options run.settings.package) options.workers run.tree unread at report messages
    c.index_over-status.result (option_map string_bytes run.none_found) c.in-Ok.ensures.none_found
    (moved4 Into c.in-Ok.ensures.only c.in-Ok.ensures.doc c.in-Ok.ensures.settings c.in-Ok.ensures.workers
    c.index_over-status.ensures))

-- what is so in either case

pub returns-in-Err-clause-navigable : goal.returns-in-Err-clause-navigable
returns-in-Err-clause-navigable g c =
    let asked = c.args.request.now in
    writes (g.F.ReadFiles.lists c.args.host.now.files.now) (g.F.ReadFiles.gives c.args.host.now.files.now)
    (g.F.ReadFiles.finds c.args.host.now.files.now) asked c.headline_of_options.ensures.files
    (blamed_by asked.options (g.F.LookAgain.blames c.args.host.now.files.now))
    (NoneFoundBy (g.F.LookAgain.passes c.args.host.now.files.now) c.args.host.now.is_watched asked.options)
    (g.Q.OutPlace.suspects c.args.places.now.report)
    (place g.P.OutPlace g.P.Part.Sink c.args.places.now.file c.args.places.now.file)
    (place g.Q.OutPlace g.Q.Part.Sink c.args.places.now.report c.put_start_report-said.new.at)
    (writing g.M.Sink c.args.messages.now c.report_unstarted.new.messages) c.report_unstarted.result
    (returns-in-Err-clause-indexed g c)

pub returns-clause-navigable : goal.returns-clause-navigable
returns-clause-navigable g c =
    let asked = c.args.request.now in
    writes (g.F.ReadFiles.lists c.args.host.now.files.now) (g.F.ReadFiles.gives c.args.host.now.files.now)
    (g.F.ReadFiles.finds c.args.host.now.files.now) asked c.headline_of_options.ensures.files
    (blamed_by asked.options (g.F.LookAgain.blames c.args.host.now.files.now))
    (NoneFoundBy (g.F.LookAgain.passes c.args.host.now.files.now) c.args.host.now.is_watched asked.options)
    (g.Q.OutPlace.suspects c.args.places.now.report)
    (place g.P.OutPlace g.P.Part.Sink c.args.places.now.file c.index_over-status.new.places.file)
    (place g.Q.OutPlace g.Q.Part.Sink c.args.places.now.report c.index_over-status.new.places.report)
    (writing g.M.Sink c.args.messages.now c.index_over-status.new.messages)
    c.index_over-status.result (returns-clause-indexed g c)
