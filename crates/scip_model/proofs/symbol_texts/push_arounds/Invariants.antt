use Rattle.std.proofs.Common.{◌≡◌, ◌++◌, map, take}
use Rattle.scip_model.specs.Detailed.{text_around}
use Rattle.scip_model.proofs.symbol_texts.push_arounds.Given as goal

-- those so far, and that of the declaration before
pub record AreSoFar (l : goal.Live-loop-declaration) : Type 0 where
  pub so_far : l.arounds ≡ l.fn.arounds ++ map (text_around l.home l.facts) (take l.declaration-index l.declarations)
  pub around : l.text ≡ text_around l.home l.facts l.before

abbrev pub invariant-loop-declaration : goal.invariant-loop-declaration
invariant-loop-declaration l = AreSoFar l
