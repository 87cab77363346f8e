use Rattle.std.proofs.Common.{◌∙◌, sym, subst}
use Rattle.scip_symbol.specs.Reading.{symbol_at}
use Rattle.scip_symbol.specs.Gives.{Stops}
use Rattle.scip_symbol.specs.SpellsSymbol.{SpellsSymbol}
use Rattle.scip_symbol.proofs.ReadingTestLemmas.{same_ok}
use Rattle.scip_symbol.proofs.SymbolLemmas.{symbol-found, symbol-exact, unspelled}
use Rattle.scip_symbol.specs.LongestPrefix.{IsLongestPrefix}
use Rattle.scip_symbol.proofs.SpellsSymbolLongestLemmas.{longest-prefix}
use Rattle.scip_symbol.proofs.SpellsSymbolTextLemmas.{spelled-is}
use Rattle.scip_symbol.proofs.reader.read.Goals as goal

pub from_parts-requires : goal.from_parts-requires
from_parts-requires c = spelled-is c.args.text.now c.in-Ok.parts
    (symbol-found c.args.text.now c.in-Ok.parts c.in-Ok.ensures)

pub returns-in-Ok-clause-found : goal.returns-in-Ok-clause-found
returns-in-Ok-clause-found c =
    subst (λ s. SpellsSymbol c.args.text.now s) (sym c.from_parts.ensures)
    (symbol-found c.args.text.now c.in-Ok.parts c.in-Ok.ensures)

pub returns-in-Ok-clause-only : goal.returns-in-Ok-clause-only
returns-in-Ok-clause-only c =
    λ symbol spells. c.from_parts.ensures
    ∙ same_ok (symbol_at c.args.text.now) c.in-Ok.ensures (symbol-exact c.args.text.now symbol spells)

pub returns-in-Err-BadSymbol-clause-only : goal.returns-in-Err-BadSymbol-clause-only
returns-in-Err-BadSymbol-clause-only c = λ symbol spells. unspelled c.args.text.now c.in-Err-BadSymbol.left symbol
    (subst (λ stop. Stops stop (symbol_at c.args.text.now)) c.in-Err-BadSymbol.field-0-is c.in-Err-BadSymbol.ensures)
    spells

pub returns-in-Err-BadSymbol-clause-fault : goal.returns-in-Err-BadSymbol-clause-fault
returns-in-Err-BadSymbol-clause-fault c =
    let stopped = subst (λ stop. Stops stop (symbol_at c.args.text.now)) c.in-Err-BadSymbol.field-0-is
    c.in-Err-BadSymbol.ensures in
    subst (IsLongestPrefix c.args.text.now) (sym c.saturating_sub.ensures)
    (longest-prefix c.args.text.now c.in-Err-BadSymbol.left stopped)
