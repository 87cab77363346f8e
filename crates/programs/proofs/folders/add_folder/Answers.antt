use Rattle.std.proofs.Common.{[], ◌∷◌, map}
use Rattle.std.specs.String.{string_bytes}
use Rattle.std.proofs.lemmas.List.{map-append}
use Rattle.programs.proofs.FolderLemmas.{one_path_more}
use Rattle.programs.proofs.folders.add_folder.Goals as goal

pub loop-path-preserved : goal.loop-path-preserved
loop-path-preserved c =
    let paths = c.loop-path.yielded in
    rw (map-append string_bytes paths (c.in-Some.path ∷ []))
    (one_path_more c.args.id (map string_bytes paths) (string_bytes c.in-Some.path) c.loop-path.folder c.add.new.self
    c.loop-path.invariant c.in_ok-add.ensures.id c.in_ok-add.ensures.paths)
