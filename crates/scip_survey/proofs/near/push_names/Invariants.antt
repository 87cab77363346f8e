use Rattle.std.proofs.Common.{◌≡◌, ◌++◌, map, take}
use Rattle.std.specs.List.{flat_map}
use Rattle.scip_query.specs.CommandViews.{text_of}
use Rattle.scip_survey.specs.Near.{name_in}
use Rattle.scip_survey.proofs.near.push_names.Given as goal

-- the names of those so far
abbrev pub invariant-loop-entry : goal.invariant-loop-entry
invariant-loop-entry l =
    map text_of l.names.items ≡ map text_of l.fn.names.items ++ flat_map name_in (take l.entry-index l.entries)
