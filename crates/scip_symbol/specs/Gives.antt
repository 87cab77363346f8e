-- What a result of the reader's private functions says of what is read.
use Rattle.std.specs.Prelude.{◌≡◌, Result, Ok, Err}
use Rattle.scip_symbol.specs.Reading.{Read}
use Rattle.scip_symbol.specs.declared.fault.SymbolFault.{SymbolFault}
use Rattle.scip_symbol.specs.declared.fault.SymbolFault.TheVariants.{BadSymbol, Memory}

-- nothing is read, with this many bytes left; or memory ran out, which says nothing
abbrev pub Stops : {Y : Type 0} → SymbolFault → Read Y → Type 0
Stops (BadSymbol left) read = read ≡ Err left
Stops Memory read = Unit {0}

-- the answer is what is read, or it stops so
abbrev pub Gives : {X Y : Type 0} → (X → Y) → Result X SymbolFault → Read Y → Type 0
Gives view (Ok x) read = read ≡ Ok (view x)
Gives view (Err fault) read = Stops fault read
