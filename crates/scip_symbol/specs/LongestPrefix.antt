-- How far a text that spells no symbol could still have become one.
use Rattle.std.specs.Prelude.{ℕ, ◌≤◌, List, ◌++◌, length, take, IsUtf8}
use Rattle.scip_symbol.specs.SpellsSymbol.{SpellsSymbol}
use Rattle.scip_symbol.specs.declared.symbol.SymbolParts.{SymbolParts}
use Rattle.scip_symbol.specs.declared.fault.SymbolFault.{SymbolFault}
use Rattle.scip_symbol.specs.declared.fault.SymbolFault.TheVariants.{BadSymbol, Memory}

-- some text behind it makes it a spelling
pub record BeginsSymbol (prefix : List ℕ) : Type 0 where
  pub behind : List ℕ
  pub is_text : IsUtf8 behind
  pub symbol : SymbolParts
  pub spelled : SpellsSymbol (prefix ++ behind) symbol

-- the first so many bytes are the longest prefix of the text that begins some symbol's spelling: no bytes at all make
-- a longer one a spelling
pub record IsLongestPrefix (text : List ℕ) (count : ℕ) : Type 0 where
  pub within : count ≤ length text
  pub begins : BeginsSymbol (take count text)
  pub longest : (n : ℕ) (behind : List ℕ) (symbol : SymbolParts) → n ≤ length text
      → SpellsSymbol (take n text ++ behind) symbol → n ≤ count

-- what a fault says about the text: BadSymbol its offset, Memory nothing
abbrev pub IsFaultOf : (text : List ℕ) → SymbolFault → Type 0
IsFaultOf text (BadSymbol offset) = IsLongestPrefix text offset
IsFaultOf text Memory = Unit {0}
