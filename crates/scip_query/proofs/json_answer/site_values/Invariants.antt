use Rattle.std.proofs.Common.{◌≡◌, map, take}
use Rattle.serde_json.specs.View.{view}
use Rattle.scip_query.specs.JsonAnswers.{site_value}
use Rattle.scip_query.specs.MoreViews.{site_view}
use Rattle.scip_query.proofs.json_answer.site_values.Given as goal

-- the values so far
abbrev pub invariant-loop-site : goal.invariant-loop-site
invariant-loop-site l = map view l.values.items ≡ map site_value (map site_view (take l.site-index l.sites))
