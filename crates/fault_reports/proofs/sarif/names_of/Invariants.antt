use Rattle.std.proofs.Common.{◌≡◌, ◌++◌, [], drop, map}
use Rattle.fault_reports.specs.Findings.{Found}
use Rattle.fault_reports.specs.Sarif.{new_names}
use Rattle.fault_reports.proofs.sarif.names_of.Given as goal

-- the names so far, and the new ones of the other findings, are all
abbrev pub invariant-loop-finding : goal.invariant-loop-finding
invariant-loop-finding l =
    map (λ other. other.now) l.names.items
    ++ new_names (map (λ other. other.now) l.names.items)
    (map (λ (found : Found). found.name) (drop l.finding-index l.findings))
    ≡ new_names [] (map (λ (found : Found). found.name) l.findings)
