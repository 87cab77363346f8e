use Rattle.std.proofs.Common.{◌≡◌, map, take}
use Rattle.serde_json.specs.View.{view}
use Rattle.fault_reports.specs.Sarif.{rule_value}
use Rattle.fault_reports.proofs.sarif.rules_of.Given as goal

-- the rules so far
abbrev pub invariant-loop-name : goal.invariant-loop-name
invariant-loop-name l =
    map view l.rules.items ≡ map (λ name. rule_value l.findings name.now) (take l.name-index l.names)
