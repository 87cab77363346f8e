use Rattle.std.proofs.Common.{◌≡◌, ◌++◌, drop}
use Rattle.std.specs.List.{flat_map}
use Rattle.scip_pages.specs.Code.{piece_code, pieces_of}
use Rattle.scip_pages.proofs.code.push_pieces.Given as goal

-- the pieces so far, and those of what is left of the line
abbrev pub invariant-loop-run : goal.invariant-loop-run
invariant-loop-run l =
    l.page.items ++ flat_map piece_code (pieces_of l.links l.rest (drop l.run-index l.runs))
    ≡ l.fn.page.items ++ flat_map piece_code (pieces_of l.links l.line l.runs)
