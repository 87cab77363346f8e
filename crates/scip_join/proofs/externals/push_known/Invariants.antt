-- Those of the symbols so far.
use Rattle.std.proofs.Common.{◌≡◌, ◌++◌, take}
use Rattle.std.specs.List.{filter}
use Rattle.scip_join.specs.Tables.{is_among, texts}
use Rattle.scip_join.proofs.externals.push_known.Given as goal

abbrev pub invariant-loop-symbol : goal.invariant-loop-symbol
invariant-loop-symbol l =
    texts l.known.items ≡ texts l.fn.known.items ++ filter (is_among (texts l.names)) (take l.symbol-index l.symbols)
