use Rattle.std.proofs.Common.{◌≡◌, ℕ, List, map, take}
use Rattle.std.specs.Borrow.{Bor}
use Rattle.scip_query.proofs.lookups.texts_in.Given as goal

-- the texts so far
abbrev pub invariant-loop-text : goal.invariant-loop-text
invariant-loop-text l = map (λ (text : Bor (List ℕ)). text.now) l.texts.items ≡ take l.text-index l.documentation
