use Rattle.std.proofs.Common.{◌≡◌, map, take}
use Rattle.serde_json.specs.View.{view}
use Rattle.scip_query.specs.JsonAnswers.{found_value}
use Rattle.scip_query.specs.MoreViews.{found_view}
use Rattle.scip_query.proofs.json_answer.found_values.Given as goal

-- the values so far
abbrev pub invariant-loop-found : goal.invariant-loop-found
invariant-loop-found l = map view l.values.items ≡ map found_value (map found_view (take l.found-index l.all))
