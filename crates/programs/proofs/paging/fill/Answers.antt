use Rattle.std.specs.String.{string_bytes}
use Rattle.std.proofs.Common.{refl, subst, ℕ, List}
use Rattle.std.proofs.lemmas.Result.{err_from_is_err_and}
use Rattle.streams.specs.Writers.{writing}
use Rattle.programs.specs.Paging.{Finishes, folder_places, unbegun}
use Rattle.programs.proofs.FolderPlaceLemmas.{fills}
use Rattle.programs.proofs.paging.fill.Goals as goal

pub returns-in_err-folder : goal.returns-in_err-folder
returns-in_err-folder g c =
    let p = err_from_is_err_and c.from_residual.result c.from_residual.ensures.1 in rw (p.1, p.2) (unbegun refl refl)

pub returns : goal.returns
returns g c =
    let options = c.args.options.now in
    let out = string_bytes options.out in
    let places = folder_places g.P.FolderPlace g.P.Folder.MakeFiles c.args.places.now c.finish.new.places in
    let messages = writing g.M.Sink c.args.messages.now c.make_pages-done.new.messages in
    let whole = c.make_pages-done.new.made in
    let made = c.make_pages-done.result in
    fills (g.F.ReadFiles.gives c.args.host.now.files.now) (string_bytes options.root) out c.args.queries.now places
    messages c.in_ok-folder.folder whole made c.finish.result
    record {
      nothing = c.in_ok-folder.ensures;
      makes = rw c.as_str.ensures.value at c.make_pages-done.ensures;
    }
    (subst (λ (path : List ℕ). Finishes places path whole made c.finish.result) c.as_str-out.ensures.value
    c.finish.ensures)
