use Rattle.std.proofs.Common.{map, string_bytes}
use Rattle.source_files.specs.Closures.{paths_in}
use Rattle.source_files.proofs.ClosureLemmas.{no_built_in}
use Rattle.source_files.proofs.closure.add_built_in.Goals as goal

pub returns : goal.returns
returns c =
    no_built_in c.args.links_options c.is_built_in_wanted.result c.args.sources.now (paths_in c.args.known.now)
    (map string_bytes c.args.fresh.now.items) c.is_built_in_wanted.ensures c.if-is_built_in_wanted.false
