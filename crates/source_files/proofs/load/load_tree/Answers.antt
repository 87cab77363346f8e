use Rattle.std.proofs.Common.{map, string_bytes}
use Rattle.std.proofs.lemmas.Result.{err_from_is_err_and}
use Rattle.source_files.proofs.LoadLemmas.{refused_root, refused_included}
use Rattle.source_files.proofs.load.load_tree.Goals as goal

pub returns-in_err-own-clause-refused : goal.returns-in_err-own-clause-refused
returns-in_err-own-clause-refused g c =
    let p = err_from_is_err_and c.from_residual.result c.from_residual.ensures.1 in
    rw (p.1, p.2) (refused_root (g.F.ReadFiles.lists c.args.readers.now.files.now)
    (g.F.ReadFiles.gives c.args.readers.now.files.now) c.args.readers.now.leaves_out c.args.root.now
    (map string_bytes c.args.included.now) c.in_err-own.field-0.0 c.in_err-own.ensures.err)

pub returns-in_err-others-clause-refused : goal.returns-in_err-others-clause-refused
returns-in_err-others-clause-refused g c =
    let p = err_from_is_err_and c.from_residual-in_err-others.result c.from_residual-in_err-others.ensures.1 in
    rw (p.1, p.2) (refused_included (g.F.ReadFiles.lists c.args.readers.now.files.now)
    (g.F.ReadFiles.gives c.args.readers.now.files.now) c.args.readers.now.leaves_out c.args.root.now
    (map string_bytes c.args.included.now) c.in_ok-own.own c.in_err-others.field-0.0 c.in_ok-own.ensures.ok
    c.in_err-others.ensures.err)
