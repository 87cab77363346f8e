use Rattle.std.proofs.Common.{◌∙◌, List, ap, length, map, sym, subst}
use Rattle.std.specs.String.{string_bytes}
use Rattle.std.proofs.lemmas.Result.{err_from_is_err_and}
use Rattle.command_line.specs.declared.options.include.PackageFolder.{PackageFolder}
use Rattle.scip_symbol.specs.Package.{Package}
use Rattle.scip_model.specs.Packages.{Packages, all_in}
use Rattle.programs.specs.Folders.{AreFolders, NamePackages}
use Rattle.programs.proofs.FolderLemmas.{folders_loaded, folders_of_run, from_folders, unloaded_of_run}
use Rattle.programs.proofs.folders.folders_walked.Goals as goal
use Rattle.source_files.specs.Unread.{unread_of}
use Rattle.source_files.proofs.WalkLemmas.{none_there}

pub returns-then-is_empty-clause-folders : goal.returns-then-is_empty-clause-folders
returns-then-is_empty-clause-folders g c =
    let lists = g.F.ReadFiles.lists c.args.readers.now.files.now in
    let gives = g.F.ReadFiles.gives c.args.readers.now.files.now in
    let finds = g.F.ReadFiles.finds c.args.readers.now.files.now in
    let options = c.args.options.now in
    let found = c.in_ok-found.found in
    let unread = c.in_ok-unread.unread.items in
    let none = none_there options.include_packages.items _
    (ap (λ (folders : List PackageFolder). length folders) (sym c.deref.ensures.value) ∙ c.deref.ensures.len)
    (sym c.is_empty.ensures ∙ c.if-is_empty.true) in
    let Of : Package → Packages = all_in in
    let Here : Packages → Type 0 = λ packages. AreFolders lists gives finds options c.in_ok-read.read unread
    packages in
    subst Here (sym (c.of_run.ensures ∙ ap Of c.in_ok-run.ensures.named.0))
    (folders_of_run lists gives finds options found.tree c.in_ok-read.read (map unread_of found.unread.items) unread
    c.in_ok-unread.ensures c.requires.unlisted none
    c.in_ok-run.ensures.named.1
    (rw (c.as_str-root.ensures.value, c.deref-then-is_empty.ensures.value, c.requires.faulty)
    at c.in_ok-found.ensures.tree) c.in_ok-read.ensures)

-- there is no tree of files below folders of which none has a package of its own
pub returns-in_err-found-clause-stops : goal.returns-in_err-found-clause-stops
returns-in_err-found-clause-stops g c =
    let options = c.args.options.now in
    let none = none_there options.include_packages.items _
    (ap (λ (folders : List PackageFolder). length folders) (sym c.deref.ensures.value) ∙ c.deref.ensures.len)
    (sym c.is_empty.ensures ∙ c.if-is_empty.true) in
    let p = err_from_is_err_and c.from_residual-in_err-found.result c.from_residual-in_err-found.ensures.1 in
    let named : NamePackages options = record {
      run = c.in_ok-run.ensures.named.1;
      folders = rw c.deref.ensures.value at c.in_ok-ids.ensures.named.1;
    } in
    rw (p.1, p.2) (unloaded_of_run (g.F.ReadFiles.lists c.args.readers.now.files.now)
    (g.F.ReadFiles.gives c.args.readers.now.files.now) (g.F.ReadFiles.finds c.args.readers.now.files.now) options
    c.in_err-found.field-0.0 c.requires.unlisted none named
    (rw (c.as_str-root.ensures.value, c.deref-then-is_empty.ensures.value, c.requires.faulty)
    at c.in_err-found.ensures.refused))

-- the tree of files below folders of which some have packages of their own
pub returns-clause-folders : goal.returns-clause-folders
returns-clause-folders g c =
    let lists = g.F.ReadFiles.lists c.args.readers.now.files.now in
    let gives = g.F.ReadFiles.gives c.args.readers.now.files.now in
    let finds = g.F.ReadFiles.finds c.args.readers.now.files.now in
    let options = c.args.options.now in
    let loaded = c.in_ok-loaded.loaded in
    let own = map string_bytes loaded.own.items in
    let others = map (λ paths. map string_bytes paths.items) loaded.others.items in
    let unread = map unread_of loaded.unread.items in
    folders_loaded lists gives finds options loaded.tree c.in_ok-made.made.tree own others unread
    c.in_ok-made.made.unread.items c.in_ok-made.made.packages
    (from_folders lists gives finds options loaded.tree own others unread c.requires.unlisted
    (rw (c.as_str-root.ensures.value, c.deref-2.ensures.value, c.in_ok-folders.ensures, c.requires.faulty)
    at c.in_ok-loaded.ensures.loaded))
    c.in_ok-made.ensures.read c.in_ok-made.ensures.unread c.in_ok-made.ensures.by
