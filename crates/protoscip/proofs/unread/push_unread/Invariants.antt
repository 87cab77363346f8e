use Rattle.std.proofs.Common.{◌≡◌, ◌++◌, drop}
use Rattle.std.specs.String.{string_bytes}
use Rattle.protoscip.specs.Unread.{unread_lines}
use Rattle.protoscip.proofs.unread.push_unread.Given as goal

-- the lines so far, and those that are left
abbrev pub invariant-loop-path : goal.invariant-loop-path
invariant-loop-path l =
    string_bytes l.out ++ unread_lines l.explain (drop l.path-index l.unread)
    ≡ string_bytes l.fn.out ++ unread_lines l.explain l.unread
