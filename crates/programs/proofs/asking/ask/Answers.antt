use Rattle.std.specs.String.{string_bytes}
use Rattle.std.specs.Global.{Global}
use Rattle.std.proofs.Common.{refl, subst, map, List, [], String, Ok, Err}
use Rattle.streams.specs.Writers.{writing}
use Rattle.programs.specs.AskedOnce.{read, unread}
use Rattle.programs.specs.Messages.{TellsOne}
use Rattle.programs.specs.FilesFaults.{IsTold, status_of}
use Rattle.programs.specs.declared.files_fault.ToldBy.TheVariants.{Other}
use Rattle.programs.specs.IndexFiles.{IsIndexOf}
use Rattle.programs.proofs.asking.ask.Goals as goal

pub returns-in-Ok : goal.returns-in-Ok
returns-in-Ok g c =
    let Read : List (String Global) → Type 0 = λ paths.
    IsIndexOf (g.F.ReadFiles.gives c.args.host.now.files.now) (map string_bytes paths) (Ok c.in-Ok.queries) in
    read c.in-Ok.queries (subst Read c.as_slice-paths.ensures.value c.in-Ok.ensures) c.answer_asked.ensures

pub returns-in-Err : goal.returns-in-Err
returns-in-Err g c =
    let fault = c.in-Err.fault in
    let Read : List (String Global) → Type 0 = λ paths.
    IsIndexOf (g.F.ReadFiles.gives c.args.host.now.files.now) (map string_bytes paths) (Err fault) in
    let Said : List (String Global) → Type 0 = λ paths. TellsOne
    (IsTold (g.F.LookAgain.blames c.args.host.now.files.now [] []) Other c.args.options.now.explain
    (map string_bytes paths) fault) (status_of fault)
    (writing g.M.Sink c.args.messages.now c.report_files.new.messages) c.report_files.result in
    let paths = c.as_slice-paths.ensures.value in
    unread fault (subst Read paths c.in-Err.ensures) refl (subst Said paths c.report_files.ensures)
