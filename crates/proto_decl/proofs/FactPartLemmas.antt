-- The places of a file's facts are parts of its text, as the spans of its tree are.
use Rattle.std.proofs.Common.{sym, subst, ℕ, ◌<◌, ◌≤◌, Option, Some, None, List, [], ◌∷◌, length, map}
use Rattle.std.proofs.Common.{Bool, arith}
use Rattle.std.specs.Prelude.{IsCharBoundary}
use Rattle.std.specs.List.{All}
use Rattle.std.proofs.lemmas.List.Elements.{All-nil, All-cons, All-head, All-tail, All-append}
use Rattle.proto_lex.specs.declared.span.Span.{Span}
use Rattle.proto_lex.specs.Lexed.{IsPart, AreInOrder}
use Rattle.proto_parse.specs.tree.TypeName.{TypeName}
use Rattle.proto_parse.specs.tree.FieldType.{FieldType}
use Rattle.proto_parse.specs.tree.FieldType.TheVariants.{Scalar, Named}
use Rattle.proto_parse.specs.tree.Head.{Head}
use Rattle.proto_parse.specs.tree.Head.TheVariants as head
use Rattle.proto_parse.specs.tree.Import.{Import}
use Rattle.proto_parse.specs.tree.File.{File}
use Rattle.proto_parse.specs.Parts.{Part, Placed, placed_parts, parts_of, types_of, named_by, extended_by}
use Rattle.proto_parse.specs.Parts.Part.{BlockPart, EnumPart, ValuePart, FieldPart, MapFieldPart, ServicePart}
use Rattle.proto_parse.specs.Parts.Part.{MethodPart}
use Rattle.proto_parse.specs.Filled.{FilledImport}
use Rattle.proto_parse.proofs.PartLemmas.{flat-all, placed-all}
use Rattle.proto_decl.specs.Names.{components_at}
use Rattle.proto_decl.specs.Spans.{OfTypeName, OfType, OfHead, OfPart, OfPackage}
use Rattle.proto_decl.specs.Imports.{start_of, end_of, imports_of}
use Rattle.proto_decl.specs.Declares.{inside_part, file_surrounding, package_spans}
use Rattle.proto_decl.specs.Uses.{use_of, is_extending, used_by, uses_of}
use Rattle.proto_decl.specs.Facts.{component_spans, name_spans, use_spans}
use Rattle.proto_decl.specs.Laws.{IsNamedAt}
use Rattle.proto_decl.specs.declared.declaration.Declaration.{Declaration}
use Rattle.proto_decl.specs.declared.surrounding.Surrounding.{Surrounding}
use Rattle.proto_decl.specs.declared.uses.Use.{Use}
use Rattle.proto_decl.specs.declared.imports.Imported.{Imported}
use Rattle.proto_decl.proofs.OutlinePickLemmas.{spans_of_components}

module _ (text : List ℕ) where
  -- each component of the use is a part of the text
  abbrev OfUse : Use → Type 0
  OfUse used = All (IsPart text) (component_spans used.components)

  components_part : (spans : List Span) → All (IsPart text) spans
      → All (IsPart text) (component_spans (components_at text spans))
  components_part spans all =
      subst (λ (found : List Span). All (IsPart text) found) (sym (spans_of_components text spans)) all

  name_part : (is_extended : Bool) (scope : List ℕ) (name : TypeName) → OfTypeName (IsPart text) name
      → OfUse (use_of is_extended text scope name)
  name_part is_extended scope name h = components_part name.components h.1

  types_part : (is_extended : Bool) (scope : List ℕ) (names : List TypeName) → All (OfTypeName (IsPart text)) names
      → All OfUse (map (use_of is_extended text scope) names)
  types_part is_extended scope [] all = All-nil OfUse
  types_part is_extended scope (name ∷ names) all =
      All-cons OfUse (use_of is_extended text scope name) (map (use_of is_extended text scope) names)
      (name_part is_extended scope name (All-head (OfTypeName (IsPart text)) name names all))
      (types_part is_extended scope names (All-tail (OfTypeName (IsPart text)) name names all))

  one_name : (name : TypeName) → OfTypeName (IsPart text) name → All (OfTypeName (IsPart text)) (name ∷ [])
  one_name name h = All-cons (OfTypeName (IsPart text)) name [] h (All-nil (OfTypeName (IsPart text)))

  type_names : (type : FieldType) → OfType (IsPart text) type → All (OfTypeName (IsPart text)) (named_by type)
  type_names (Scalar word) h = All-nil (OfTypeName (IsPart text))
  type_names (Named name) h = one_name name h

  head_names : (head : Head) → OfHead (IsPart text) head → All (OfTypeName (IsPart text)) (extended_by head)
  head_names (head.Message heading) h = All-nil (OfTypeName (IsPart text))
  head_names (head.Group group) h = All-nil (OfTypeName (IsPart text))
  head_names (head.Oneof heading) h = All-nil (OfTypeName (IsPart text))
  head_names (head.Extend type) h = one_name type h

  part_names : (part : Part) → OfPart (IsPart text) part → All (OfTypeName (IsPart text)) (types_of part)
  part_names (BlockPart head) h = head_names head h
  part_names (EnumPart heading) h = All-nil (OfTypeName (IsPart text))
  part_names (ValuePart heading) h = All-nil (OfTypeName (IsPart text))
  part_names (FieldPart field) h = type_names field.field_type h.1
  part_names (MapFieldPart field) h = type_names field.value h.1
  part_names (ServicePart heading) h = All-nil (OfTypeName (IsPart text))
  part_names (MethodPart method) h =
      All-cons (OfTypeName (IsPart text)) method.input (method.output ∷ []) h.1 (one_name method.output h.2)

  all_parts : (uses : List Use) → All OfUse uses → All (IsPart text) (use_spans uses)
  all_parts [] all = All-nil (IsPart text)
  all_parts (used ∷ uses) all =
      All-append (IsPart text) (component_spans used.components) (use_spans uses) (All-head OfUse used uses all)
      (all_parts uses (All-tail OfUse used uses all))

  pub uses_part : (file : File) → All (OfPart (IsPart text)) (parts_of file)
      → All (IsPart text) (use_spans (uses_of text file))
  uses_part file h =
      let surrounding = file_surrounding text file in
      all_parts (uses_of text file)
      (flat-all (λ (p : Placed Surrounding). used_by text p.around p.part)
      (λ (p : Placed Surrounding). OfPart (IsPart text) p.part) (λ used. Unit {0}) OfUse
      (λ p of_part known.
      types_part (is_extending p.part) p.around.scope (types_of p.part) (part_names p.part of_part))
      (placed_parts (inside_part text) surrounding file.items)
      (placed-all (inside_part text) (OfPart (IsPart text)) surrounding file.items h) (λ k d h. tt))

  package_part_by : (name : Option (List Span)) → OfPackage (IsPart text) name → All (IsPart text) (package_spans name)
  package_part_by None h = All-nil (IsPart text)
  package_part_by (Some spans) h = h

  pub package_part : (name : Option (List Span)) → OfPackage (IsPart text) name
      → All (IsPart text) (component_spans (components_at text (package_spans name)))
  package_part name h = components_part (package_spans name) (package_part_by name h)

  pub names_part : (known declarations : List Declaration) → All (IsNamedAt text known) declarations
      → All (IsPart text) (name_spans declarations)
  names_part known [] all = All-nil (IsPart text)
  names_part known (d ∷ ds) all =
      All-cons (IsPart text) d.name (name_spans ds) ((All-head (IsNamedAt text known) d ds all).place)
      (names_part known ds (All-tail (IsNamedAt text known) d ds all))

  -- the ends of spans that are parts
  ends_part : (spans : List Span) → 0 < length spans → All (IsPart text) spans
      → IsCharBoundary text (start_of spans) × (end_of spans ≤ length text) × IsCharBoundary text (end_of spans)
  ends_part [] some all = absurd (omega (arith, some))
  ends_part (span ∷ []) some all = let is = All-head (IsPart text) span [] all in
      (is.starts_whole, is.within, is.ends_whole)
  ends_part (span ∷ (next ∷ others)) some all =
      let later = ends_part (next ∷ others) (omega arith) (All-tail (IsPart text) span (next ∷ others) all) in
      ((All-head (IsPart text) span (next ∷ others) all).starts_whole, later.1, later.2)

  abbrev OfLiterals : Import → Type 0
  OfLiterals import = All (IsPart text) import.literals

  pub imports_part : (imports : List Import) (from : ℕ) → All FilledImport imports → All OfLiterals imports
      → AreInOrder from (map (λ (imported : Imported). imported.span) (imports_of text imports))
      → All (IsPart text) (map (λ (imported : Imported). imported.span) (imports_of text imports))
  imports_part [] from filled all order = All-nil (IsPart text)
  imports_part (import ∷ imports) from filled all order =
      let ends = ends_part import.literals (All-head FilledImport import imports filled)
      (All-head OfLiterals import imports all) in
      All-cons (IsPart text) _ _
      (record { some = order.1; within = ends.1; starts_whole = ends.0; ends_whole = ends.2 })
      (imports_part imports (end_of import.literals) (All-tail FilledImport import imports filled)
      (All-tail OfLiterals import imports all) order.2)
