use Rattle.std.proofs.Common.{◌∙◌, ◌++◌, List, ap, map}
use Rattle.std.proofs.lemmas.Result.{err_from_is_err_and}
use Rattle.source_tree.specs.Files.{SourceFile}
use Rattle.source_files.specs.Roots.{FilesBelow, all_unread, files_of}
use Rattle.source_files.specs.Unread.{unread_of}
use Rattle.source_files.proofs.TakenLemmas.{are_loaded, not_loaded}
use Rattle.source_files.proofs.load.make_loaded.Goals as goal

pub returns-in_err-tree : goal.returns-in_err-tree
returns-in_err-tree c =
    let p = err_from_is_err_and c.from_residual-in_err-tree.result c.from_residual-in_err-tree.ensures.1 in
    let others = c.args.others.items in
    rw (p.1, p.2) (not_loaded c.args.leaves_out c.args.own others _ c.add_each.new.files.items
    c.in_ok-sources.sources.items c.in_ok-included.included.items (map unread_of c.add_each.new.unread.items)
    (map unread_of c.take_each.new.unread.items) (map unread_of c.take_each-2.new.unread.items)
    (ap (λ (below : FilesBelow). below.files) c.own.view_is)
    (c.in_ok-add_each.ensures.files
    ∙ ap (λ (l : List SourceFile). l ++ files_of others) c.new-included.ensures.items)
    (c.in_ok-add_each.ensures.unread
    ∙ ap (λ (below : FilesBelow). below.unread ++ all_unread others) c.own.view_is)
    c.in_ok-sources.ensures c.in_ok-included.ensures c.in_err-tree.field-0.0 c.in_err-tree.ensures)

pub returns : goal.returns
returns c =
    let others = c.args.others.items in
    are_loaded c.args.leaves_out c.args.own others _ c.add_each.new.files.items
    c.in_ok-sources.sources.items c.in_ok-included.included.items (map unread_of c.add_each.new.unread.items)
    (map unread_of c.take_each.new.unread.items) (map unread_of c.take_each-2.new.unread.items)
    (ap (λ (below : FilesBelow). below.files) c.own.view_is)
    (c.in_ok-add_each.ensures.files
    ∙ ap (λ (l : List SourceFile). l ++ files_of others) c.new-included.ensures.items)
    (c.in_ok-add_each.ensures.unread
    ∙ ap (λ (below : FilesBelow). below.unread ++ all_unread others) c.own.view_is)
    c.in_ok-sources.ensures c.in_ok-included.ensures c.in_ok-tree.tree (map unread_of c.in_ok-unread.unread.items)
    c.in_ok-unread.ensures c.in_ok-tree.ensures
