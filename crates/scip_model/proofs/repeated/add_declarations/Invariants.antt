use Rattle.std.proofs.Common.{map, take}
use Rattle.std.specs.String.{string_bytes}
use Rattle.scip_model.specs.Tables.Repeats.{AreTakenFrom}
use Rattle.scip_model.proofs.repeated.add_declarations.Given as goal

-- those so far are taken
abbrev pub invariant-loop-declaration : goal.invariant-loop-declaration
invariant-loop-declaration l =
    AreTakenFrom l.number (take l.declaration-index l.declarations) l.fn.holders l.holders
    (map string_bytes l.fn.names.keys) (map string_bytes l.names.keys)
