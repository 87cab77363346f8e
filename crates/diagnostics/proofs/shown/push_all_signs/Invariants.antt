use Rattle.std.proofs.Common.{◌≡◌, ◌++◌, take}
use Rattle.std.specs.List.{flat_map}
use Rattle.std.specs.String.{string_bytes}
use Rattle.diagnostics.specs.Characters.{characters}
use Rattle.diagnostics.specs.Tables.Steps.{signs}
use Rattle.diagnostics.proofs.shown.push_all_signs.Given as goal

-- what is to come of the rest completes what there is
abbrev pub invariant-loop-left : goal.invariant-loop-left
invariant-loop-left l =
    string_bytes l.out ++ flat_map (signs l.sign) (take l.left (characters l.rest))
    ≡ string_bytes l.fn.out ++ flat_map (signs l.sign) (take l.most (characters l.bytes))

abbrev pub decreases-loop-left : goal.decreases-loop-left
decreases-loop-left l = l.left
