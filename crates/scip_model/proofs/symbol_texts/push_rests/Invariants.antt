use Rattle.std.proofs.Common.{◌≡◌, ◌++◌, map, take}
use Rattle.scip_model.specs.Named.{text_of, declaration_in}
use Rattle.scip_model.specs.Tables.OwnTexts.{behind}
use Rattle.scip_model.proofs.symbol_texts.push_rests.Given as goal

-- those so far
abbrev pub invariant-loop-declaration : goal.invariant-loop-declaration
invariant-loop-declaration l =
    behind l.front l.rests
    ≡ behind l.front l.fn.rests ++ map (λ declaration. text_of l.home.id (declaration_in l.home l.facts declaration))
    (take l.declaration-index l.declaration-items)
