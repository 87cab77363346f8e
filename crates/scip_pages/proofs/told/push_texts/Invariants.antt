use Rattle.std.proofs.Common.{◌≡◌, ◌++◌, ℕ, List, take}
use Rattle.std.specs.Borrow.{Bor}
use Rattle.std.specs.List.{flat_map}
use Rattle.scip_pages.specs.Told.{told_text}
use Rattle.scip_pages.proofs.told.push_texts.Given as goal

-- those so far
abbrev pub invariant-loop-told : goal.invariant-loop-told
invariant-loop-told l =
    l.text.items ≡ l.fn.text.items
    ++ flat_map (λ (t : Bor (List ℕ)). told_text t.now) (take l.told-index l.texts)
