use Rattle.std.proofs.Common.{◌≡◌, ◌++◌, ℕ, List, map, take}
use Rattle.std.specs.Borrow.{Bor}
use Rattle.std.specs.List.{flat_map}
use Rattle.scip_pages.specs.Snapshot.{note_line}
use Rattle.scip_pages.proofs.about.push_note_lines.Given as goal

-- the lines so far
abbrev pub invariant-loop-line : goal.invariant-loop-line
invariant-loop-line l = l.text.items
    ≡ l.fn.text.items ++ flat_map (note_line l.before)
    (map (λ (line : Bor (List ℕ)). line.now) (take l.line-index l.lines))
