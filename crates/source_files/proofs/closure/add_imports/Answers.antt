use Rattle.std.proofs.Common.{map, string_bytes}
use Rattle.source_files.specs.Closures.{paths_in, wanted_by}
use Rattle.source_files.proofs.ClosureLemmas.{goes_first, goes_last, goes_next}
use Rattle.source_files.proofs.closure.add_imports.Goals as goal

pub loop-rest-init : goal.loop-rest-init
loop-rest-init c =
    goes_first (wanted_by c.args.publicly) c.args.imports.now (paths_in c.args.known.now)
    (map string_bytes c.args.fresh.now.items)

pub loop-rest-preserved : goal.loop-rest-preserved
loop-rest-preserved c =
    goes_next (wanted_by c.args.publicly) c.args.imports.now c.loop-rest.rest.now _ c.import-item.result
    (paths_in c.args.known.now) (map string_bytes c.args.fresh.now.items) (paths_in c.loop-rest.known) _
    (map string_bytes c.loop-rest.fresh.items) _ c.in-len1-up.len_at_least c.import-item.is c.loop-rest.invariant
    c.in_ok-add_import.ensures

pub returns : goal.returns
returns c =
    goes_last (wanted_by c.args.publicly) c.args.imports.now c.loop-rest.rest.now (paths_in c.args.known.now)
    (map string_bytes c.args.fresh.now.items) (paths_in c.loop-rest.known) (map string_bytes c.loop-rest.fresh.items)
    c.in_default.len_below c.loop-rest.invariant
