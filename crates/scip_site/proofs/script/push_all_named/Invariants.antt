use Rattle.std.proofs.Common.{◌≡◌, ◌++◌, ℕ, List, map, take}
use Rattle.std.specs.Borrow.{Bor}
use Rattle.std.specs.List.{flat_map}
use Rattle.scip_site.specs.Script.{named_text}
use Rattle.scip_site.proofs.script.push_all_named.Given as goal

-- the names so far
abbrev pub invariant-loop-place : goal.invariant-loop-place
invariant-loop-place l =
    l.script.items ≡ l.fn.script.items
    ++ flat_map (named_text l.site.queries.now l.asked.lines.now.unit
    (map (λ (t : Bor (List ℕ)). t.now) l.asked.lines.now.lines)) (take l.place-index l.firsts)
