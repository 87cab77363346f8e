-- What declarations are in, and the ranges over all of them.
use Rattle.std.proofs.Common.{◌≡◌, ◌∙◌, sym, ap, refl, ℕ, ◌-◌, ◌<◌, Bool, cond}
use Rattle.std.proofs.Common.{Option, Some, None, List, [], ◌∷◌, ◌++◌, map, take, arith}
use Rattle.std.specs.List.{slice_get, list_any}
use Rattle.std.specs.Str.{bytes_eq}
use Rattle.std.specs.Option.{option_map, option_and_then}
use Rattle.std.proofs.lemmas.Bool.{le-leb, lt-leb}
use Rattle.std.proofs.lemmas.Option.{get_or_from_slice_get, slice_get-map}
use Rattle.proto_lex.specs.declared.position.Encoding.{Encoding}
use Rattle.proto_lex.specs.declared.span.Span.{Span}
use Rattle.proto_decl.specs.Facts.{Facts}
use Rattle.proto_decl.specs.Laws.{component_names}
use Rattle.proto_decl.specs.Names.{dotted}
use Rattle.proto_decl.specs.declared.detail.Detail.{Detail}
use Rattle.proto_decl.specs.declared.declaration.Declaration.{Declaration}
use Rattle.proto_decl.specs.declared.declaration.DeclarationStep.{DeclarationStep}
use Rattle.scip_records.specs.Range.{RangeNumbers}
use Rattle.scip_symbol.specs.Package.{Package}
use Rattle.scip_model.specs.Detailed.{detail_at, details_shown, details_with, path_around, symbol_around, text_around}
use Rattle.scip_model.specs.Named.{Home}
use Rattle.scip_model.specs.Repeated.{file_namespace}
use Rattle.scip_model.specs.Occurs.{definition_role, enclosing_with, range_over}
use Rattle.scip_model.specs.Tables.Plans.{Around, around_in, arounds_if, arounds_in, declaration_number, range_around}
use Rattle.scip_model.specs.Tables.Plans.{ranges_over, text_at}

-- ---- symbols

-- the path without its last step
pub path_front : (outer : List DeclarationStep) (last : DeclarationStep) → path_around (outer ++ last ∷ []) ≡ outer
path_front [] last = refl
path_front (step ∷ []) last = refl
path_front (step ∷ (next ∷ others)) last = ap (λ steps. step ∷ steps) (path_front (next ∷ others) last)

-- what a declaration with these steps is in
pub text_of_outer : (id : Package) (components : List (List ℕ)) (declared : Declaration) (outer : List DeclarationStep)
    (last : DeclarationStep) → declared.path ≡ outer ++ last ∷ []
    → symbol_around id components outer ≡ symbol_around id components (path_around declared.path)
text_of_outer id components declared outer last is =
    ap (symbol_around id components) (sym (path_front outer last) ∙ ap path_around (sym is))

-- What is around depends on the steps to it alone: the namespaces before a declaration depend on its first step.
module _ (id : Package) (namespaces : List (List ℕ) → List (List ℕ)) where
  abbrev around_steps : List DeclarationStep → List ℕ
  around_steps steps = symbol_around id (namespaces (take 1 (map (λ (s : DeclarationStep). s.name) steps))) steps

  abbrev around_path : List DeclarationStep → List ℕ
  around_path path =
      symbol_around id (namespaces (take 1 (map (λ (s : DeclarationStep). s.name) path))) (path_around path)

  around_is : (path : List DeclarationStep) → around_path path ≡ around_steps (path_around path)
  around_is [] = refl
  around_is (step ∷ []) = refl
  around_is (step ∷ (next ∷ others)) = refl

  beside_steps : (p q : List DeclarationStep) → path_around p ≡ path_around q → around_path p ≡ around_path q
  beside_steps p q same = around_is p ∙ (ap around_steps same ∙ sym (around_is q))

-- declarations to which the same steps lead but the last are in the same
pub beside_same : (home : Home) (facts : Facts) (a b : Declaration) → path_around a.path ≡ path_around b.path
    → text_around home facts a ≡ text_around home facts b
beside_same home facts a b same =
    let names = component_names facts.package_name in
    beside_steps home.id (λ first. cond (list_any (bytes_eq (dotted (names ++ first))) home.repeated)
    (file_namespace home.path ∷ names) names) a.path b.path same

-- details that aren't asked for have no symbol
pub shown_unasked : (facts : Facts) (declared : Declaration) (index : ℕ) (text other : List ℕ) → facts.details ≡ None
    → details_shown declared (detail_at facts index) text ≡ details_shown declared (detail_at facts index) other
shown_unasked facts declared index text other none =
    let without : detail_at facts index ≡ None =
    ap (λ (details : Option (List Detail)).
    option_and_then (λ (ds : List Detail). slice_get ds index) details) none in
    ap (λ (detail : Option Detail). details_shown declared detail text) without
    ∙ sym (ap (λ (detail : Option Detail). details_shown declared detail other) without)

-- the details of a declaration, with its own symbol of those for a file
module _ (home : Home) (facts : Facts) (index : ℕ) (declared : Declaration)
    (there : slice_get facts.declarations index ≡ Some declared) where
  abbrev around : List ℕ
  around = text_around home facts declared

  shown_if : (details : Option (List Detail))
      → details_shown declared (option_and_then (λ (ds : List Detail). slice_get ds index) details)
      (text_at (arounds_if details (map (text_around home facts) facts.declarations)) index)
      ≡ details_shown declared (option_and_then (λ (ds : List Detail). slice_get ds index) details) around
  shown_if None = refl
  shown_if (Some details) =
      ap (details_shown declared (slice_get details index))
      (get_or_from_slice_get (map (text_around home facts) facts.declarations) index around []
      (slice_get-map (text_around home facts) facts.declarations index
      ∙ ap (option_map (text_around home facts)) there))

  pub shown_with : details_shown declared (detail_at facts index) (text_at (arounds_in home facts) index)
      ≡ details_with home facts declared (detail_at facts index)
  shown_with = shown_if facts.details

-- ---- ranges

-- before the declarations' symbols there are no ranges
pub none_before : (around : Around) (number : ℕ) → number < around.first
    → range_around around definition_role number ≡ None
none_before around number before =
    ap (λ (b : Bool). cond b (slice_get around.ranges (number - around.first)) None)
    (lt-leb around.first number before)

module _ (encoding : Encoding) (text : List ℕ) where
  abbrev over : Span → RangeNumbers
  over span = range_over encoding text span

  over_one : (detail : Option Detail)
      → option_map over (option_map (λ (d : Detail). d.extent) detail) ≡ enclosing_with encoding text detail
  over_one None = refl
  over_one (Some detail) = refl

  range_at : (details : Option (List Detail)) (index : ℕ) → slice_get (ranges_over encoding text details) index
      ≡ enclosing_with encoding text (option_and_then (λ (ds : List Detail). slice_get ds index) details)
  range_at None index = refl
  range_at (Some details) index =
      slice_get-map over (map (λ (d : Detail). d.extent) details) index
      ∙ (ap (option_map over) (slice_get-map (λ (d : Detail). d.extent) details index)
      ∙ over_one (slice_get details index))

  -- around a declaration's definition
  pub declared_around : (facts : Facts) (index number : ℕ) → number ≡ declaration_number facts index
      → range_around (around_in encoding text facts) definition_role number
      ≡ enclosing_with encoding text (detail_at facts index)
  declared_around facts index number is =
      let around = around_in encoding text facts in
      let left : number - around.first ≡ index = omega (arith, is) in
      ap (λ (b : Bool). cond b (slice_get around.ranges (number - around.first)) None)
      (le-leb around.first number (omega (arith, is)))
      ∙ (ap (slice_get around.ranges) left ∙ range_at facts.details index)
