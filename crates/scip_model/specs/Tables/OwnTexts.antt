-- The texts of the symbols of a file's own declarations, what has them, and texts that are kept as one.
use Rattle.std.specs.Prelude.{ℕ, ℤ, Option, List, map, ◌≡◌, zero, suc, ◌≤◌, [], ◌∷◌, ◌++◌, length, slice_range}
use Rattle.std.specs.Str.{IsCharBoundary}
use Rattle.proto_lex.specs.declared.span.Span.{Span}
use Rattle.proto_lex.specs.declared.position.Encoding.{Encoding}
use Rattle.scip_records.specs.declared.details.Details.{Details}
use Rattle.scip_records.specs.Range.{RangeNumbers}
use Rattle.proto_decl.specs.Declares.{simple_name}
use Rattle.proto_decl.specs.Facts.{Facts}
use Rattle.proto_decl.specs.declared.declaration.Declaration.{Declaration}
use Rattle.index_hooks.specs.declared.choice.Choice.{Choice}
use Rattle.scip_records.specs.declared.records.Occurrence.{Occurrence}
use Rattle.scip_records.specs.declared.records.SymbolInformation.{SymbolInformation}
use Rattle.proto_decl.specs.Laws.{component_names}
use Rattle.scip_symbol.specs.Entities.{OfPackage}
use Rattle.scip_model.specs.Entries.{documentation_of}
use Rattle.scip_model.specs.Named.{Home, text_of, declaration_in}
use Rattle.scip_model.specs.Occurs.{range_over}

-- of each declaration, in order
abbrev pub declaration_texts : Home → Facts → List (List ℕ)
declaration_texts home facts =
    map (λ declaration. text_of home.id (declaration_in home facts declaration)) facts.declarations

-- With what they begin: the text of the package, or, if some have their file before it, less.
pub record IsFront (home : Home) (facts : Facts) (front : List ℕ) : Type 0 where
  pub usual : home.repeated ≡ [] → front ≡ text_of home.id (OfPackage (component_names facts.package_name))
  pub begins : (declaration : Declaration)
      → (rest : List ℕ) × (text_of home.id (declaration_in home facts declaration) ≡ front ++ rest)

-- a symbol with this text over a span
abbrev pub occurrence_with : Encoding → (text : List ℕ) → Span → (symbol : List ℕ) → ℤ
    → (around : Option RangeNumbers) → Occurrence
occurrence_with encoding text span symbol roles around =
    record { range = range_over encoding text span; symbol = symbol; symbol_roles = roles; enclosing_range = around }

-- the entry of a declaration whose symbol has this text, with these details
abbrev pub entry_with : (symbol : List ℕ) → Declaration → Details → Choice → SymbolInformation
entry_with symbol declared details choice = record {
  symbol = symbol;
  documentation = documentation_of choice.doc declared;
  display_name = simple_name declared.path;
  details = details;
}

-- ---- texts that are parts of one, one behind the other, and texts that begin alike

-- the parts, by where each ends: the first begins here, and each other one where the one before it ends
abbrev pub parts_from : (text : List ℕ) → (start : ℕ) → (ends : List ℕ) → List (List ℕ)
parts_from text start [] = []
parts_from text start (end ∷ ends) = slice_range text start end ∷ parts_from text end ends

-- where a part begins
abbrev pub start_of : (start : ℕ) → (ends : List ℕ) → (index : ℕ) → ℕ
start_of start ends zero = start
start_of start [] (suc index) = start
start_of start (end ∷ ends) (suc index) = start_of end ends index

-- each part ends where a character does, and the last one where the text ends
abbrev pub AreEnds : (text : List ℕ) → (start : ℕ) → (ends : List ℕ) → Type 0
AreEnds text start [] = start ≡ length text
AreEnds text start (end ∷ ends) = (start ≤ end) × IsCharBoundary text end × AreEnds text end ends

-- each behind the same text
abbrev pub behind : (front : List ℕ) → (rests : List (List ℕ)) → List (List ℕ)
behind front rests = map (λ rest. front ++ rest) rests
