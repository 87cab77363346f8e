use Rattle.std.proofs.Common.{◌≡◌, ◌++◌, take}
use Rattle.std.specs.List.{flat_map}
use Rattle.scip_pages.specs.Told.{told_text}
use Rattle.scip_pages.proofs.told.push_owned.Given as goal

-- those so far
abbrev pub invariant-loop-told : goal.invariant-loop-told
invariant-loop-told l =
    l.text.items ≡ l.fn.text.items ++ flat_map told_text (take l.told-index l.texts)
