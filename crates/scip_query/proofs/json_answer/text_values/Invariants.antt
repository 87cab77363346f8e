use Rattle.std.proofs.Common.{◌≡◌, map, take}
use Rattle.serde_json.specs.View.{view}
use Rattle.serde_json.specs.Data.{string}
use Rattle.scip_query.specs.CommandViews.{text_of}
use Rattle.scip_query.proofs.json_answer.text_values.Given as goal

-- the values so far
abbrev pub invariant-loop-text : goal.invariant-loop-text
invariant-loop-text l = map view l.values.items ≡ map string (map text_of (take l.text-index l.texts))
