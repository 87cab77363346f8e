use Rattle.std.proofs.Common.{◌≡◌, map, take}
use Rattle.serde_json.specs.View.{view}
use Rattle.scip_query.specs.JsonAnswers.{outlined_value}
use Rattle.scip_query.specs.MoreViews.{outlined_view}
use Rattle.scip_query.proofs.json_answer.outline_values.Given as goal

-- the values so far
abbrev pub invariant-loop-outlined : goal.invariant-loop-outlined
invariant-loop-outlined l = map view l.values.items ≡ map outlined_value (map outlined_view (take l.outlined-index l.outline))
