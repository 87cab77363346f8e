use Rattle.std.proofs.Common.{◌∙◌, map, string_bytes, sym}
use Rattle.source_files.specs.Closures.{paths_in}
use Rattle.source_files.proofs.ClosureLemmas.{hidden}
use Rattle.source_files.proofs.closure.add_import.Goals as goal

pub returns-then-is_hidden : goal.returns-then-is_hidden
returns-then-is_hidden c =
    hidden c.args.publicly c.args.import.now (paths_in c.args.known.now) (map string_bytes c.args.fresh.now.items)
    (sym c.is_hidden.ensures ∙ c.if-is_hidden.true)
