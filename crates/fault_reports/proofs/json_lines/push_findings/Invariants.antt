use Rattle.std.proofs.Common.{◌≡◌, ◌++◌, drop}
use Rattle.std.specs.List.{flat_map}
use Rattle.fault_reports.specs.JsonLines.{line_of, value_of}
use Rattle.fault_reports.proofs.json_lines.push_findings.Given as goal

-- the lines so far, and those that are left
abbrev pub invariant-loop-finding : goal.invariant-loop-finding
invariant-loop-finding l =
    l.out.items ++ flat_map (λ found. line_of (value_of found)) (drop l.finding-index l.findings)
    ≡ l.fn.out.items ++ flat_map (λ found. line_of (value_of found)) l.findings
