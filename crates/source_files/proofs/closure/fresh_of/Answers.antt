use Rattle.std.proofs.Common.{List, ℕ, ap, map, string_bytes, subst}
use Rattle.source_files.specs.Closures.{AddsFresh, paths_in, wanted_in}
use Rattle.source_files.proofs.closure.fresh_of.Goals as goal

pub returns : goal.returns
returns c =
    subst (λ (l : List (List ℕ)). AddsFresh (wanted_in c.args.publicly c.args.files.now) (paths_in c.args.known.now)
    (paths_in c.add_files.new.known) l (map string_bytes c.add_files.new.fresh.items))
    (ap (map string_bytes) c.new-fresh.ensures.items) c.in_ok-add_files.ensures
