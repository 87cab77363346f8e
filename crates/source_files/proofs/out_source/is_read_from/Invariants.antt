use Rattle.std.proofs.Common.{map, take, string_bytes, false}
use Rattle.std.specs.Prelude.{All}
use Rattle.source_files.specs.Places.{IsAskedBelow}
use Rattle.source_files.proofs.out_source.is_read_from.Given as goal

-- below none of the roots so far one is said to be the one there
abbrev pub invariant-loop-root : goal.invariant-loop-root
invariant-loop-root g l =
    All (λ root. IsAskedBelow (g.P.OutPlace.same l.place) root l.tree false) (map string_bytes (take l.root-index l.roots))
