use Rattle.std.proofs.Common.{◌≡◌, map, take}
use Rattle.serde_json.specs.View.{view}
use Rattle.fault_reports.specs.Sarif.{result_value}
use Rattle.fault_reports.proofs.sarif.results_of.Given as goal

-- the results so far
abbrev pub invariant-loop-finding : goal.invariant-loop-finding
invariant-loop-finding l = map view l.results.items ≡ map result_value (take l.finding-index l.findings)
