use Rattle.std.proofs.Common.{map, string_bytes}
use Rattle.std.proofs.lemmas.Result.{err_from_is_err_and}
use Rattle.source_files.proofs.UnreadLemmas.{includes, stops_included}
use Rattle.source_files.proofs.listed.included_of.Goals as goal

pub returns-in_err-all : goal.returns-in_err-all
returns-in_err-all g c =
    let p = err_from_is_err_and c.from_residual-in_err-all.result c.from_residual-in_err-all.ensures.1 in
    rw (p.1, p.2) (stops_included (g.F.ReadFiles.finds c.args.readers.now.files.now)
    (g.F.ReadFiles.gives c.args.readers.now.files.now) (g.I.FindImports.tells c.args.finder.now)
    c.args.links_options (map string_bytes c.args.roots.now) (map string_bytes c.args.listed.now) c.args.sources.now
    c.args.readers.now.leaves_out c.in_err-all.field-0.0
    (c.in_err-all.ensures (map string_bytes c.args.listed.now) c.in_ok-known.ensures))

pub returns : goal.returns
returns g c =
    includes (g.F.ReadFiles.finds c.args.readers.now.files.now)
    (g.F.ReadFiles.gives c.args.readers.now.files.now) (g.I.FindImports.tells c.args.finder.now)
    c.args.links_options (map string_bytes c.args.roots.now) (map string_bytes c.args.listed.now) c.args.sources.now
    c.args.readers.now.leaves_out c.in_ok-all.all c.unless_unread.result
    (c.in_ok-all.ensures (map string_bytes c.args.listed.now) c.in_ok-known.ensures)
    c.unless_unread.ensures.kept c.unless_unread.ensures.refused
