use Rattle.std.proofs.Common.{◌≡◌, map, take}
use Rattle.serde_json.specs.View.{view}
use Rattle.scip_query.specs.JsonAnswers.{entry_value}
use Rattle.scip_query.specs.MoreViews.{entry_view}
use Rattle.scip_query.proofs.json_answer.entry_values.Given as goal

-- the values so far
abbrev pub invariant-loop-entry : goal.invariant-loop-entry
invariant-loop-entry l = map view l.values.items ≡ map entry_value (map entry_view (take l.entry-index l.entries))
