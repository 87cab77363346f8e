use Rattle.std.proofs.Common.{◌≡◌, ◌++◌, drop}
use Rattle.std.specs.String.{string_bytes}
use Rattle.scip_symbol.specs.SymbolText.{descriptors_text}
use Rattle.scip_symbol.proofs.printer.push_descriptors.Given as goal

abbrev pub invariant-loop-descriptor : goal.invariant-loop-descriptor
invariant-loop-descriptor l =
    string_bytes l.out ++ descriptors_text (drop l.descriptor-index l.descriptors)
    ≡ string_bytes l.fn.out ++ descriptors_text l.descriptors
