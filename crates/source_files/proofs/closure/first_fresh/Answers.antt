use Rattle.std.proofs.Common.{[], false, map, string_bytes}
use Rattle.source_files.specs.Closures.{built_in_of, paths_in, wanted_in}
use Rattle.source_files.proofs.ClosureLemmas.{adds_more}
use Rattle.source_files.proofs.closure.first_fresh.Goals as goal

pub returns : goal.returns
returns c =
    adds_more (wanted_in false c.args.sources.now) (built_in_of c.args.links_options c.args.sources.now)
    (paths_in c.args.known.now) (paths_in c.fresh_of.new.known) (paths_in c.add_built_in.new.known) []
    (map string_bytes c.in_ok-fresh.fresh.items) (map string_bytes c.add_built_in.new.fresh.items)
    c.in_ok-fresh.ensures c.in_ok-add_built_in.ensures
