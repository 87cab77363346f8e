use Rattle.std.proofs.Common.{map, string_bytes}
use Rattle.source_files.proofs.ListedLemmas.{paths_last, paths_next}
use Rattle.source_files.proofs.listed.add_paths_at.Goals as goal

pub loop-rest-preserved : goal.loop-rest-preserved
loop-rest-preserved c =
    paths_next c.args.root c.loop-rest.rest.now _ c.found-item.result (map string_bytes c.loop-rest.paths.items) _ _
    c.in-len1-up.len_at_least c.found-item.is c.loop-rest.invariant c.in_ok-add_path_at.ensures

pub returns : goal.returns
returns c =
    paths_last c.args.root c.loop-rest.rest.now (map string_bytes c.loop-rest.paths.items) _ c.in_default.len_below
    c.loop-rest.invariant
