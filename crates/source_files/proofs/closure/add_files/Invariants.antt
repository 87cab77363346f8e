use Rattle.std.proofs.Common.{length, map, string_bytes}
use Rattle.source_files.specs.Closures.{paths_in, wanted_of}
use Rattle.source_files.proofs.ClosureLemmas.{Goes}
use Rattle.source_files.proofs.closure.add_files.Given as goal

-- what the rest wants comes behind what is added so far
abbrev pub invariant-loop-rest : goal.invariant-loop-rest
invariant-loop-rest l =
    Goes (λ told. wanted_of l.publicly told.imports) l.files l.rest (paths_in l.fn.known)
    (map string_bytes l.fn.fresh.items) (paths_in l.known)
    (map string_bytes l.fresh.items)

abbrev pub decreases-loop-rest : goal.decreases-loop-rest
decreases-loop-rest l = length l.rest
