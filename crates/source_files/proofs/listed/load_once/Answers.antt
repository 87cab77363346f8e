use Rattle.std.proofs.Common.{◌∙◌, List, ap, map, string_bytes, subst, sym}
use Rattle.std.proofs.lemmas.List.{length-map}
use Rattle.std.proofs.lemmas.Result.{err_from_is_err_and}
use Rattle.source_files.specs.Closures.{Gathered}
use Rattle.source_files.specs.Reached.{AreIncluded, MayNotInclude, Told}
use Rattle.source_files.proofs.ListedTreeLemmas.{loads, refuses_included, refuses_source, refuses_tree}
use Rattle.source_files.proofs.listed.load_once.Goals as goal

pub returns-in_err-sources-clause-refused : goal.returns-in_err-sources-clause-refused
returns-in_err-sources-clause-refused g c =
    let p = err_from_is_err_and c.from_residual.result c.from_residual.ensures.1 in
    rw (p.1, p.2) (λ listed once_are. refuses_source (g.F.ReadFiles.finds c.args.readers.now.files.now)
    (g.F.ReadFiles.gives c.args.readers.now.files.now) (g.I.FindImports.tells c.args.finder.now)
    c.args.readers.now.leaves_out c.args.links_options (map string_bytes c.args.roots.now) listed (map string_bytes c.args.once.now)
    (map string_bytes c.first_alone.result.now) once_are c.first_alone.ensures c.in_err-sources.field-0.0
    c.in_err-sources.ensures)

pub returns-in_err-included-clause-refused : goal.returns-in_err-included-clause-refused
returns-in_err-included-clause-refused g c =
    let p = err_from_is_err_and c.from_residual-in_err-included.result c.from_residual-in_err-included.ensures.1 in
    let found = c.deref.ensures.value ∙ ap (λ (all : Gathered). all.found) c.sources.view_is in
    rw (p.1, p.2) (λ listed once_are. refuses_included (g.F.ReadFiles.finds c.args.readers.now.files.now)
    (g.F.ReadFiles.gives c.args.readers.now.files.now) (g.I.FindImports.tells c.args.finder.now)
    c.args.readers.now.leaves_out c.args.links_options (map string_bytes c.args.roots.now) listed (map string_bytes c.args.once.now)
    (map string_bytes c.first_alone.result.now) once_are c.first_alone.ensures c.in_ok-sources.sources
    c.in_err-included.field-0.0 c.in_ok-sources.ensures
    (subst (λ (all : List Told). MayNotInclude (g.F.ReadFiles.finds c.args.readers.now.files.now)
    (g.F.ReadFiles.gives c.args.readers.now.files.now) (g.I.FindImports.tells c.args.finder.now)
    c.args.readers.now.leaves_out c.args.links_options (map string_bytes c.args.roots.now) (map string_bytes c.args.once.now) all
    c.in_err-included.field-0.0) found c.in_err-included.ensures))

pub returns-in_err-tree-clause-refused : goal.returns-in_err-tree-clause-refused
returns-in_err-tree-clause-refused g c =
    let p = err_from_is_err_and c.from_residual-in_err-tree.result c.from_residual-in_err-tree.ensures.1 in
    let found = c.deref.ensures.value ∙ ap (λ (all : Gathered). all.found) c.sources.view_is in
    let seen = c.in_ok-included.included in
    rw (p.1, p.2) (λ listed once_are. refuses_tree (g.F.ReadFiles.finds c.args.readers.now.files.now)
    (g.F.ReadFiles.gives c.args.readers.now.files.now) (g.I.FindImports.tells c.args.finder.now)
    c.args.readers.now.leaves_out c.args.links_options (map string_bytes c.args.roots.now) listed (map string_bytes c.args.once.now)
    (map string_bytes c.first_alone.result.now) once_are c.first_alone.ensures c.in_ok-sources.sources seen
    c.in_err-tree.field-0.0 c.in_ok-sources.ensures
    (subst (λ (all : List Told). AreIncluded (g.F.ReadFiles.finds c.args.readers.now.files.now)
    (g.F.ReadFiles.gives c.args.readers.now.files.now) (g.I.FindImports.tells c.args.finder.now)
    c.args.readers.now.leaves_out c.args.links_options (map string_bytes c.args.roots.now) (map string_bytes c.args.once.now) all
    seen.found seen.unread) found c.in_ok-included.ensures) c.in_err-tree.ensures)

pub returns-clause-tree : goal.returns-clause-tree
returns-clause-tree g c =
    let found = c.deref.ensures.value ∙ ap (λ (all : Gathered). all.found) c.sources.view_is in
    let seen = c.in_ok-included.included in
    λ listed once_are. loads (g.F.ReadFiles.finds c.args.readers.now.files.now)
    (g.F.ReadFiles.gives c.args.readers.now.files.now) (g.I.FindImports.tells c.args.finder.now)
    c.args.readers.now.leaves_out c.args.links_options (map string_bytes c.args.roots.now) listed (map string_bytes c.args.once.now)
    (map string_bytes c.first_alone.result.now) once_are c.first_alone.ensures c.in_ok-sources.sources seen
    _ _ _ _ _ (sym (length-map c.args.roots.now string_bytes)) c.in_ok-sources.ensures
    (subst (λ (all : List Told). AreIncluded (g.F.ReadFiles.finds c.args.readers.now.files.now)
    (g.F.ReadFiles.gives c.args.readers.now.files.now) (g.I.FindImports.tells c.args.finder.now)
    c.args.readers.now.leaves_out c.args.links_options (map string_bytes c.args.roots.now) (map string_bytes c.args.once.now) all
    seen.found seen.unread) found c.in_ok-included.ensures) c.in_ok-tree.ensures
