use Rattle.std.proofs.Common.{◌≡◌}
use Rattle.option_link.specs.declared.table.Listed.{Listed}
use Rattle.option_link.specs.Lookups.{admits}
use Rattle.option_link.specs.Tables.{IsSought}
use Rattle.option_link.proofs.LoopLemmas.{UpTo}
use Rattle.option_link.proofs.table.DeclarationTable.is_owner.Given as goal

abbrev pub invariant-loop-one : goal.invariant-loop-one
invariant-loop-one l =
    UpTo (λ (one : Listed). IsSought l.self l.file (admits l.sought) l.name one.place → one.place.file ≡ l.owner)
    l.listed l.one-index
