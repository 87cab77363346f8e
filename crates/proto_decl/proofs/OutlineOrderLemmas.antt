-- Declared names, the components of uses, and imports stand in order, as the marks of a walk do; and the components of
-- uses stand
-- apart from the names.
use Rattle.std.proofs.Common.{inl, inr, sym, subst, ℕ, ◌<◌, ◌≤◌, Bool, true, false, cond, List, [], ◌∷◌, ◌++◌}
use Rattle.std.proofs.Common.{length, map, arith}
use Rattle.std.specs.List.{All}
use Rattle.std.proofs.lemmas.List.Elements.{All-nil, All-cons, All-head, All-tail}
use Rattle.proto_lex.specs.declared.span.Span.{Span}
use Rattle.proto_lex.specs.Lexed.{AreInOrder, AreApart}
use Rattle.proto_parse.specs.tree.FileItem.{FileItem}
use Rattle.proto_parse.specs.tree.Import.{Import}
use Rattle.proto_parse.specs.tree.File.{File}
use Rattle.proto_parse.specs.Walk.{Mark, is_shared, place_behind, MarksAreInOrder, names_marks, marks_in}
use Rattle.proto_parse.specs.Walk.{marks_of_items}
use Rattle.proto_parse.proofs.Walk.Then.{each_then, literal_then, import_then, items_are, between_are}
use Rattle.proto_parse.specs.Filled.{FilledImport}
use Rattle.proto_decl.specs.Imports.{start_of, end_of, imports_of}
use Rattle.proto_decl.specs.Declares.{file_surrounding, outlines_in, outlines_of}
use Rattle.proto_decl.specs.Uses.{uses_of}
use Rattle.proto_decl.specs.Facts.{use_spans}
use Rattle.proto_decl.specs.declared.imports.Imported.{Imported}
use Rattle.proto_decl.proofs.OutlinePickLemmas.{Picked, heading_names, items_picked, package_picked}
use Rattle.proto_decl.proofs.OutlinePickLemmas.Picked.{none, skip, a_name, a_component}

pub order_from : (place earlier : ℕ) (spans : List Span) → earlier ≤ place → AreInOrder place spans
    → AreInOrder earlier spans
order_from place earlier [] le order = tt
order_from place earlier (span ∷ spans) le order = (omega (arith, le, order.0), order.1, order.2)

-- a span stands apart from those behind it
apart_behind : (span : Span) (place : ℕ) (spans : List Span) → span.end ≤ place → AreInOrder place spans
    → All (AreApart span) spans
apart_behind span place [] le order = All-nil (AreApart span)
apart_behind span place (next ∷ spans) le order =
    All-cons (AreApart span) next spans (inl (omega (arith, le, order.0)))
    (apart_behind span next.end spans (omega (arith, le, order.0, order.1)) order.2)

-- each component stands apart from each name
abbrev AreAllApart : (components names : List Span) → Type 0
AreAllApart components names = All (λ component. All (AreApart component) names) components

-- and from one more name, which stands before the components
apart_from_one : (name : Span) (place : ℕ) (names components : List Span) → name.end ≤ place
    → AreInOrder place components → AreAllApart components names → AreAllApart components (name ∷ names)
apart_from_one name place names [] le order all = All-nil (λ component. All (AreApart component) (name ∷ names))
apart_from_one name place names (component ∷ components) le order all =
    All-cons (λ c. All (AreApart c) (name ∷ names)) component components
    (All-cons (AreApart component) name names (inr (omega (arith, le, order.0)))
    (All-head (λ c. All (AreApart c) names) component components all))
    (apart_from_one name component.end names components (omega (arith, le, order.0, order.1)) order.2
    (All-tail (λ c. All (AreApart c) names) component components all))

-- names in order, and components in order, apart from one another
pub record AreBeside (place : ℕ) (names components : List Span) : Type 0 where
  pub names_in_order : AreInOrder place names
  pub components_in_order : AreInOrder place components
  pub apart : All (λ component. All (AreApart component) names) components

beside_from : (place earlier : ℕ) {names components : List Span} → earlier ≤ place → AreBeside place names components
    → AreBeside earlier names components
beside_from place earlier {names} {components} le b = record {
  names_in_order = order_from place earlier names le b.names_in_order;
  components_in_order = order_from place earlier components le b.components_in_order;
  apart = b.apart;
}

-- what is behind a mark begins no earlier
no_earlier : (shared : Bool) (place start end : ℕ) → place ≤ start → start < end → place ≤ cond shared start end
no_earlier true place start end h k = h
no_earlier false place start end h k = omega (arith, h, k)

-- what is picked from marks in order
pub beside : {marks behind : List Mark} {names components : List Span} → Picked marks names components behind
    → (place : ℕ) → MarksAreInOrder place marks → AreBeside place names components
beside none place m = record
    { names_in_order = tt; components_in_order = tt; apart = All-nil (λ component. All (AreApart component) []) }
beside (skip {mark = mark} picked) place m =
    beside_from (place_behind mark) place
    (no_earlier (is_shared mark.role) place mark.span.start mark.span.end m.0 m.1)
    (beside picked (place_behind mark) m.2)
beside (a_name {span = span} {names = names} {components = components} picked) place m =
    let rest = beside picked span.end m.2 in
    record {
      names_in_order = (m.0, m.1, rest.names_in_order);
      components_in_order = order_from span.end place components (omega (arith, m.0, m.1)) rest.components_in_order;
      apart = apart_from_one span span.end names components (omega arith) rest.components_in_order rest.apart;
    }
beside (a_component {span = span} {names = names} {components = components} picked) place m =
    let rest = beside picked span.end m.2 in
    record {
      names_in_order = order_from span.end place names (omega (arith, m.0, m.1)) rest.names_in_order;
      components_in_order = (m.0, m.1, rest.components_in_order);
      apart = All-cons (λ component. All (AreApart component) names) span components
          (apart_behind span span.end names (omega arith) rest.names_in_order) rest.apart;
    }

-- where the marks of a file's items are in order, its declared names and the components of its uses are
module _ (text : List ℕ) (file : File) where
  file_beside : MarksAreInOrder 0 (marks_of_items file)
      → AreBeside 0 (heading_names (outlines_of text file)) (use_spans (uses_of text file))
  file_beside m =
      beside (items_picked text (file_surrounding text file) file.items []) 0
      (subst (MarksAreInOrder 0) (sym (items_are file.items)) m)

  pub names_in_order : MarksAreInOrder 0 (marks_of_items file) → AreInOrder 0 (heading_names (outlines_of text file))
  names_in_order m = (file_beside m).names_in_order

  pub uses_in_order : MarksAreInOrder 0 (marks_of_items file) → AreInOrder 0 (use_spans (uses_of text file))
  uses_in_order m = (file_beside m).components_in_order

  -- and so are the components of its package's name between the names of the items before and those of the items behind
  pub package_in_order : (before behind : List FileItem) (components : List Span)
      → MarksAreInOrder 0 (marks_in before ++ (names_marks components ++ marks_in behind))
      → AreInOrder 0 (heading_names (outlines_in text (file_surrounding text file) before)
      ++ (components ++ heading_names (outlines_in text (file_surrounding text file) behind)))
  package_in_order before behind components m =
      (beside (package_picked text (file_surrounding text file) before behind components) 0
      (subst (MarksAreInOrder 0) (sym (between_are before behind components)) m)).names_in_order

-- where the marks of imports are in order, the imports are

literals_rise : (literals : List Span) (from : ℕ) (marks : List Mark) → 0 < length literals
    → MarksAreInOrder from (each_then literal_then literals marks)
    → (from ≤ start_of literals) × (start_of literals < end_of literals) × MarksAreInOrder (end_of literals) marks
literals_rise [] from marks some m = absurd (omega (arith, some))
literals_rise (span ∷ []) from marks some m = (m.0, m.1, m.2)
literals_rise (span ∷ (next ∷ others)) from marks some m =
    let later = literals_rise (next ∷ others) span.end marks (omega arith) m.2 in
    (m.0, omega (arith, m.1, later.0, later.1), later.2)

pub imports_in_order : (text : List ℕ) (imports : List Import) (from : ℕ) → All FilledImport imports
    → MarksAreInOrder from (each_then import_then imports [])
    → AreInOrder from (map (λ (imported : Imported). imported.span) (imports_of text imports))
imports_in_order text [] from filled m = tt
imports_in_order text (import ∷ imports) from filled m =
    let first = literals_rise import.literals from (each_then import_then imports [])
    (All-head FilledImport import imports filled) m in (
      first.0,
      first.1,
      imports_in_order text imports (end_of import.literals)
          (All-tail FilledImport import imports filled) first.2,
    )
