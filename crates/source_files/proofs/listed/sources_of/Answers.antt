use Rattle.std.proofs.Common.{map, string_bytes, subst, sym}
use Rattle.std.proofs.lemmas.Result.{err_from_is_err_and}
use Rattle.source_files.specs.Closures.{Gathered}
use Rattle.source_files.specs.Reached.{AreSources}
use Rattle.source_files.proofs.ListedLemmas.{not_found, sources_looked}
use Rattle.source_files.proofs.listed.sources_of.Goals as goal

pub returns-in_err-looked : goal.returns-in_err-looked
returns-in_err-looked g c =
    let p = err_from_is_err_and c.from_residual.result c.from_residual.ensures.1 in
    rw (p.1, p.2) (not_found (g.F.ReadFiles.finds c.args.readers.now.files.now)
    (g.F.ReadFiles.gives c.args.readers.now.files.now) (g.I.FindImports.tells c.args.finder.now)
    c.args.readers.now.leaves_out (map string_bytes c.args.roots.now) (map string_bytes c.args.listed.now)
    c.in_err-looked.field-0.0 c.in_err-looked.ensures)

pub returns : goal.returns
returns g c =
    subst (λ (all : Gathered). AreSources (g.F.ReadFiles.finds c.args.readers.now.files.now)
    (g.F.ReadFiles.gives c.args.readers.now.files.now) (g.I.FindImports.tells c.args.finder.now)
    c.args.readers.now.leaves_out (map string_bytes c.args.roots.now) (map string_bytes c.args.listed.now) all.found
    all.unread) (sym c.in_ok-all.ensures)
    (sources_looked (g.F.ReadFiles.finds c.args.readers.now.files.now)
    (g.F.ReadFiles.gives c.args.readers.now.files.now) (g.I.FindImports.tells c.args.finder.now)
    c.args.readers.now.leaves_out (map string_bytes c.args.roots.now) (map string_bytes c.args.listed.now)
    c.in_ok-looked.looked.items c.in_ok-looked.ensures)
