use Rattle.std.proofs.Common.{map, string_bytes, subst, sym}
use Rattle.std.proofs.lemmas.Result.{err_from_is_err_and}
use Rattle.source_files.specs.Walks.{AreOnce}
use Rattle.source_files.proofs.listed.load_listed.Goals as goal

pub returns-in_err-tree-clause-refused : goal.returns-in_err-tree-clause-refused
returns-in_err-tree-clause-refused g c =
    let p = err_from_is_err_and c.from_residual-in_err-tree.result c.from_residual-in_err-tree.ensures.1 in
    let listed = map string_bytes c.args.listed.items in
    rw (p.1, p.2) (c.in_err-tree.ensures.refused listed
    (subst (λ l. AreOnce listed (map string_bytes l)) (sym c.deref.ensures.value) c.in_ok-once.ensures))

pub returns-clause-tree : goal.returns-clause-tree
returns-clause-tree g c =
    let listed = map string_bytes c.args.listed.items in
    c.in_ok-tree.ensures.tree listed
    (subst (λ l. AreOnce listed (map string_bytes l)) (sym c.deref.ensures.value) c.in_ok-once.ensures)
