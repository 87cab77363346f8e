use Rattle.std.specs.String.{string_bytes}
use Rattle.std.proofs.Common.{◌≡◌, refl, subst, sym, ℕ, List, []}
use Rattle.std.specs.Prelude.{IfOk, IfSome, Result}
use Rattle.std.specs.declared.alloc.AllocError.{AllocError}
use Rattle.streams.specs.Readers.{reading}
use Rattle.streams.specs.Writers.{writing}
use Rattle.source_files.specs.Makers.{making}
use Rattle.command_line.specs.Requests.{ask_options, index_request, join_options, pages_options, printed_text}
use Rattle.command_line.specs.Requests.{refused_text, shell_options, snapshot_options}
use Rattle.command_line.specs.declared.options.IndexRequest.{IndexRequest}
use Rattle.command_line.specs.declared.request.Request.{Request}
use Rattle.programs.specs.AskedOnce.{RunsAsked}
use Rattle.programs.specs.Indexing.{Indexed, WritesNavigable}
use Rattle.programs.specs.Joining.{RunsJoin}
use Rattle.programs.specs.Messages.{memory_line}
use Rattle.programs.specs.NoSources.{NoneFoundBy}
use Rattle.programs.specs.Paging.{RunsPages, folder_places}
use Rattle.programs.specs.Placing.{Place, place}
use Rattle.programs.specs.Printing.{Prints, Refuses}
use Rattle.programs.specs.Searches.{blamed_by, found_by, searched_by}
use Rattle.programs.specs.Serving.{AnswersNavigable, Served}
use Rattle.programs.specs.Snapshotting.{RunsSnapshot}
use Rattle.programs.proofs.MessageLemmas.{told}
use Rattle.programs.proofs.running.run.Goals as goal

pub returns-in-Print-clause-printed : goal.returns-in-Print-clause-printed
returns-in-Print-clause-printed g c =
    let Printed : List ℕ → Type 0 = λ text.
    Prints g.W.Caused.cause text (writing g.W.Sink c.args.out.now c.print.new.out)
    (writing g.M.Sink c.args.messages.now c.print.new.messages) c.print.result in
    let Here : Request → Type 0 = λ request. IfSome (printed_text request) (λ text. Printed text
    × (c.args.input.now ≡ c.args.input.now) × (c.args.places.now ≡ c.args.places.now)) in
    subst (λ (asked : Result Request AllocError). IfOk asked Here) (sym c.in-Ok.is)
    (subst Here (sym c.in-Print.is) (subst Printed c.as_str.ensures.value c.print.ensures, refl, refl))

pub returns-in-Refuse-clause-refused : goal.returns-in-Refuse-clause-refused
returns-in-Refuse-clause-refused g c =
    let Refused : List ℕ → Type 0 = λ text.
    Refuses text (writing g.M.Sink c.args.messages.now c.refuse.new.messages) c.refuse.result
    in
    let Here : Request → Type 0 = λ request. IfSome (refused_text request) (λ text. Refused text
    × (c.args.input.now ≡ c.args.input.now) × (c.args.out.now ≡ c.args.out.now)
    × (c.args.places.now ≡ c.args.places.now)) in
    subst (λ (asked : Result Request AllocError). IfOk asked Here) (sym c.in-Ok.is)
    (subst Here (sym c.in-Refuse.is)
    (subst Refused c.as_str-in-Refuse.ensures.value c.refuse.ensures, refl, refl, refl))

pub returns-in-Index-clause-indexed : goal.returns-in-Index-clause-indexed
returns-in-Index-clause-indexed g c =
    let lists = g.F.ReadFiles.lists c.args.host.now.files.now in
    let gives = g.F.ReadFiles.gives c.args.host.now.files.now in
    let finds = g.F.ReadFiles.finds c.args.host.now.files.now in
    let at : Place _ _ = place g.O.OutPlace g.O.Part.Sink c.args.places.now.file c.index_searched.new.places.file in
    let report : Place _ _ = place g.Q.OutPlace g.Q.Part.Sink c.args.places.now.report
    c.index_searched.new.places.report in
    let By : IndexRequest → Type 0 = λ given.
    Indexed (searched_by given.options lists) gives (found_by given.options finds)
    (blamed_by given.options (g.F.LookAgain.blames c.args.host.now.files.now))
    (NoneFoundBy (g.F.LookAgain.passes c.args.host.now.files.now) c.args.host.now.is_watched given.options)
    (g.Q.OutPlace.suspects c.args.places.now.report) given at report (writing g.M.Sink c.args.messages.now
    c.index_searched.new.messages) c.index_searched.result in
    let Here : Request → Type 0 = λ request. IfSome (index_request request) (λ given. By given
    × (c.args.input.now ≡ c.args.input.now) × (c.args.out.now ≡ c.args.out.now)) in
    subst (λ (asked : Result Request AllocError). IfOk asked Here) (sym c.in-Ok.is)
    (subst Here (sym c.in-Index.is) (c.index_searched.ensures.indexed, refl, refl))

pub returns-in-Shell-clause-served : goal.returns-in-Shell-clause-served
returns-in-Shell-clause-served g c =
    let Here : Request → Type 0 = λ request. IfSome (shell_options request) (λ options.
    Served c.args.host.now.manner (searched_by options (g.F.ReadFiles.lists c.args.host.now.files.now))
    (g.F.ReadFiles.gives c.args.host.now.files.now)
    (found_by options (g.F.ReadFiles.finds c.args.host.now.files.now))
    (blamed_by options (g.F.LookAgain.blames c.args.host.now.files.now))
    (NoneFoundBy (g.F.LookAgain.passes c.args.host.now.files.now) c.args.host.now.is_watched options)
    (g.Q.OutPlace.suspects c.args.places.now.report) options
    (place g.Q.OutPlace g.Q.Part.Sink c.args.places.now.report c.shell_searched.new.report)
    (reading g.I.Feed c.args.input.now c.shell_searched.new.commands)
    (writing g.W.Sink c.args.out.now c.shell_searched.new.answers)
    (writing g.M.Sink c.args.messages.now c.shell_searched.new.messages) c.shell_searched.result
    × (c.args.places.now.file ≡ c.args.places.now.file)) in
    subst (λ (asked : Result Request AllocError). IfOk asked Here) (sym c.in-Ok.is)
    (subst Here (sym c.in-Shell.is) (c.shell_searched.ensures.served, refl))

pub returns-in-Index-clause-navigable : goal.returns-in-Index-clause-navigable
returns-in-Index-clause-navigable g c =
    let lists = g.F.ReadFiles.lists c.args.host.now.files.now in
    let gives = g.F.ReadFiles.gives c.args.host.now.files.now in
    let finds = g.F.ReadFiles.finds c.args.host.now.files.now in
    let Here : Request → Type 0 = λ request.
    IfSome (index_request request) (λ given. WritesNavigable (searched_by given.options lists) gives
    (found_by given.options finds) given.options
    (place g.O.OutPlace g.O.Part.Sink c.args.places.now.file c.index_searched.new.places.file)
    c.index_searched.result)
    × IfSome (shell_options request) (λ options. AnswersNavigable c.args.host.now.manner
    (searched_by options lists) gives (found_by options finds) options
    (reading g.I.Feed c.args.input.now c.args.input.now)
    (writing g.W.Sink c.args.out.now c.args.out.now) c.index_searched.result) in
    subst (λ (asked : Result Request AllocError). IfOk asked Here) (sym c.in-Ok.is)
    (subst Here (sym c.in-Index.is) (c.index_searched.ensures.navigable, tt))

pub returns-in-Shell-clause-navigable : goal.returns-in-Shell-clause-navigable
returns-in-Shell-clause-navigable g c =
    let lists = g.F.ReadFiles.lists c.args.host.now.files.now in
    let gives = g.F.ReadFiles.gives c.args.host.now.files.now in
    let finds = g.F.ReadFiles.finds c.args.host.now.files.now in
    let Here : Request → Type 0 = λ request.
    IfSome (index_request request) (λ given. WritesNavigable (searched_by given.options lists) gives
    (found_by given.options finds) given.options
    (place g.O.OutPlace g.O.Part.Sink c.args.places.now.file c.args.places.now.file)
    c.shell_searched.result)
    × IfSome (shell_options request) (λ options. AnswersNavigable c.args.host.now.manner
    (searched_by options lists) gives (found_by options finds) options
    (reading g.I.Feed c.args.input.now c.shell_searched.new.commands)
    (writing g.W.Sink c.args.out.now c.shell_searched.new.answers) c.shell_searched.result) in
    subst (λ (asked : Result Request AllocError). IfOk asked Here) (sym c.in-Ok.is)
    (subst Here (sym c.in-Shell.is) (tt, c.shell_searched.ensures.navigable))

pub returns-in-Snapshot-clause-snapshotted : goal.returns-in-Snapshot-clause-snapshotted
returns-in-Snapshot-clause-snapshotted g c =
    let Here : Request → Type 0 = λ request. IfSome (snapshot_options request) (λ options.
    RunsSnapshot (g.F.ReadFiles.gives c.args.host.now.files.now) (g.F.LookAgain.blames c.args.host.now.files.now [] [])
    g.W.Caused.cause options
    (writing g.W.Sink c.args.out.now c.snapshot.new.out)
    (making g.O.MakeFiles c.args.places.now.file c.snapshot.new.made)
    (writing g.M.Sink c.args.messages.now c.snapshot.new.messages) c.snapshot.result
    × (c.args.input.now ≡ c.args.input.now) × (c.args.places.now.report ≡ c.args.places.now.report)) in
    subst (λ (asked : Result Request AllocError). IfOk asked Here) (sym c.in-Ok.is)
    (subst Here (sym c.in-Snapshot.is) (c.snapshot.ensures, refl, refl))

pub returns-in-Ask-clause-asked_once : goal.returns-in-Ask-clause-asked_once
returns-in-Ask-clause-asked_once g c =
    let Here : Request → Type 0 = λ request. IfSome (ask_options request) (λ options.
    RunsAsked (g.F.ReadFiles.gives c.args.host.now.files.now) (g.F.LookAgain.blames c.args.host.now.files.now [] [])
    g.W.Caused.cause options
    (writing g.W.Sink c.args.out.now c.ask.new.out)
    (writing g.M.Sink c.args.messages.now c.ask.new.messages) c.ask.result
    × (c.args.input.now ≡ c.args.input.now) × (c.args.places.now ≡ c.args.places.now)) in
    subst (λ (asked : Result Request AllocError). IfOk asked Here) (sym c.in-Ok.is)
    (subst Here (sym c.in-Ask.is) (c.ask.ensures, refl, refl))

pub returns-in-Pages-clause-paged : goal.returns-in-Pages-clause-paged
returns-in-Pages-clause-paged g c =
    let Here : Request → Type 0 = λ request. IfSome (pages_options request) (λ options.
    RunsPages (g.F.EmptyFolders.frees c.args.host.now.files.now) (g.F.ReadFiles.gives c.args.host.now.files.now)
    (g.F.LookAgain.blames c.args.host.now.files.now [] []) options
    (folder_places g.O.FolderPlace g.O.Folder.MakeFiles c.args.places.now.file c.pages.new.places)
    (writing g.M.Sink c.args.messages.now c.pages.new.messages) c.pages.result
    × (c.args.input.now ≡ c.args.input.now) × (c.args.out.now ≡ c.args.out.now)
    × (c.args.places.now.report ≡ c.args.places.now.report)) in
    subst (λ (asked : Result Request AllocError). IfOk asked Here) (sym c.in-Ok.is)
    (subst Here (sym c.in-Pages.is) (c.pages.ensures, refl, refl, refl))

pub returns-in-Join-clause-joined : goal.returns-in-Join-clause-joined
returns-in-Join-clause-joined g c =
    let Here : Request → Type 0 = λ request. IfSome (join_options request) (λ options.
    RunsJoin (g.F.ReadFiles.gives c.args.host.now.files.now) (g.F.LookAgain.blames c.args.host.now.files.now [] [])
    options (place g.O.OutPlace g.O.Part.Sink c.args.places.now.file c.join.new.at)
    (writing g.M.Sink c.args.messages.now c.join.new.messages) c.join.result
    × (c.args.input.now ≡ c.args.input.now) × (c.args.out.now ≡ c.args.out.now)
    × (c.args.places.now.report ≡ c.args.places.now.report)) in
    subst (λ (asked : Result Request AllocError). IfOk asked Here) (sym c.in-Ok.is)
    (subst Here (sym c.in-Join.is) (c.join.ensures, refl, refl, refl))

pub returns-in-Err-clause-unknown : goal.returns-in-Err-clause-unknown
returns-in-Err-clause-unknown g c =
    rw c.in-Err.is (
      told (writing g.M.Sink c.args.messages.now c.report.new.messages) c.report.result _
          _ string_bytes c.plain_line-line.result memory_line refl c.plain_line-line.ensures c.report.ensures,
      refl,
      refl,
      refl,
    )
