use Rattle.std.proofs.Common.{map, string_bytes, subst, sym}
use Rattle.std.proofs.lemmas.Result.{err_from_is_err_and}
use Rattle.source_files.specs.Unread.{unread_of}
use Rattle.source_files.specs.WalkSteps.{AreListedBut}
use Rattle.source_files.proofs.RootLemmas.{files_below, root_stops, unlisted_stops}
use Rattle.source_files.proofs.root.read_root.Goals as goal

pub returns-in_err-paths-clause-err : goal.returns-in_err-paths-clause-err
returns-in_err-paths-clause-err g c =
    let p = err_from_is_err_and c.from_residual.result c.from_residual.ensures.1 in
    rw (p.1, p.2) (unlisted_stops (g.F.ReadFiles.lists c.args.readers.now.files.now)
    (g.F.ReadFiles.gives c.args.readers.now.files.now) c.args.root.now c.args.readers.now.leaves_out
    c.in_err-paths.field-0.0 c.in_err-paths.ensures)

pub returns-in_err-read-clause-err : goal.returns-in_err-read-clause-err
returns-in_err-read-clause-err g c =
    let p = err_from_is_err_and c.from_residual-in_err-read.result c.from_residual-in_err-read.ensures.1 in
    let lists = g.F.ReadFiles.lists c.args.readers.now.files.now in
    let leaves_out = c.args.readers.now.leaves_out in
    let root = c.args.root.now in
    let unlisted = map unread_of c.in_ok-paths.unlisted.items in
    let listed = subst (λ l. AreListedBut (lists root) leaves_out (map string_bytes l) unlisted)
    (sym c.deref.ensures.value) c.in_ok-paths.ensures in
    rw (p.1, p.2) (root_stops lists (g.F.ReadFiles.gives c.args.readers.now.files.now) root leaves_out
    (map string_bytes c.deref.result.now) unlisted c.in_err-read.field-0.0 listed c.in_err-read.ensures)

pub returns-clause-ok : goal.returns-clause-ok
returns-clause-ok g c =
    let lists = g.F.ReadFiles.lists c.args.readers.now.files.now in
    let leaves_out = c.args.readers.now.leaves_out in
    let root = c.args.root.now in
    let unlisted = map unread_of c.in_ok-paths.unlisted.items in
    let listed = subst (λ l. AreListedBut (lists root) leaves_out (map string_bytes l) unlisted)
    (sym c.deref.ensures.value) c.in_ok-paths.ensures in
    files_below lists (g.F.ReadFiles.gives c.args.readers.now.files.now) root leaves_out
    (map string_bytes c.deref.result.now) unlisted c.in_ok-read.read c.in_ok-with_unlisted.field-0 listed
    c.in_ok-read.ensures c.in_ok-with_unlisted.ensures.files c.in_ok-with_unlisted.ensures.unread
