use Rattle.std.proofs.Common.{map}
use Rattle.std.specs.String.{string_bytes}
use Rattle.std.proofs.lemmas.Result.{err_from_is_err_and}
use Rattle.source_files.specs.Unread.{unread_of}
use Rattle.programs.specs.Starting.MayNotStart.{no_package, no_tree_of_list}
use Rattle.programs.proofs.FolderLemmas.{folders_loaded, from_list}
use Rattle.programs.proofs.ListedFolderLemmas.{unnamed}
use Rattle.programs.proofs.listed_folders.folders_of_list.Goals as goal

pub returns-in_err-ids-clause-stops : goal.returns-in_err-ids-clause-stops
returns-in_err-ids-clause-stops g c =
    let p = err_from_is_err_and c.from_residual.result c.from_residual.ensures.1 in
    rw (p.1, p.2) (unnamed (g.F.ReadFiles.lists c.args.readers.now.files.now)
    (g.F.ReadFiles.gives c.args.readers.now.files.now) (g.F.ReadFiles.finds c.args.readers.now.files.now)
    c.args.options.now c.in_err-ids.field-0.0 c.in_err-ids.ensures.stops)

pub returns-in_err-loaded-clause-stops : goal.returns-in_err-loaded-clause-stops
returns-in_err-loaded-clause-stops g c =
    let p = err_from_is_err_and c.from_residual-in_err-loaded.result c.from_residual-in_err-loaded.ensures.1 in
    rw (p.1, p.2) (no_tree_of_list c.in_ok-ids.ensures.named c.requires.listed c.in_err-loaded.ensures.stops)

pub returns-in_err-made-clause-stops : goal.returns-in_err-made-clause-stops
returns-in_err-made-clause-stops g c =
    let p = err_from_is_err_and c.from_residual-in_err-made.result c.from_residual-in_err-made.ensures.1 in
    rw (p.1, p.2) (no_package c.in_err-made.ensures.bad)

pub returns-clause-folders : goal.returns-clause-folders
returns-clause-folders g c =
    let lists = g.F.ReadFiles.lists c.args.readers.now.files.now in
    let gives = g.F.ReadFiles.gives c.args.readers.now.files.now in
    let finds = g.F.ReadFiles.finds c.args.readers.now.files.now in
    let options = c.args.options.now in
    let loaded = c.in_ok-loaded.loaded in
    let own = map string_bytes loaded.own.items in
    let others = map (λ here. map string_bytes here.items) loaded.others.items in
    let unread = map unread_of loaded.unread.items in
    folders_loaded lists gives finds options loaded.tree c.in_ok-made.made.tree own others unread
    c.in_ok-made.made.unread.items c.in_ok-made.made.packages
    (from_list lists gives finds options c.args.list.now loaded.tree own others unread c.requires.listed
    c.in_ok-loaded.ensures.loaded)
    c.in_ok-made.ensures.read c.in_ok-made.ensures.unread c.in_ok-made.ensures.by
