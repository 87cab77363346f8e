use Rattle.std.proofs.Common.{◌≡◌, map, take}
use Rattle.protoscip.specs.Unread.{unread_finding}
use Rattle.protoscip.proofs.unread.unread_findings.Given as goal

-- the findings so far
abbrev pub invariant-loop-path : goal.invariant-loop-path
invariant-loop-path l =
    l.findings.items ≡ map unread_finding (take l.path-index l.unread)
