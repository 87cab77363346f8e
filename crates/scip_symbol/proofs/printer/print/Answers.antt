use Rattle.std.proofs.Common.{◌++◌, ◌∙◌, ap}
use Rattle.scip_symbol.specs.SymbolText.{symbol_text}
use Rattle.scip_symbol.proofs.SpellsSymbolTextLemmas.{printed-text}
use Rattle.scip_symbol.proofs.printer.print.Goals as goal

pub returns-clause-spelling : goal.returns-clause-spelling
returns-clause-spelling c =
    printed-text _ _ c.parts.ensures.known (
    c.in_ok-push_symbol.ensures ∙ ap (λ l. l ++ symbol_text c.parts.result.now) c.new-out.ensures.bytes
    ∙ ap symbol_text c.parts.ensures.same)
