-- The spans of a tree are spans of its tokens.
use Rattle.std.proofs.Common.{◌≡◌, sym, subst, ℕ, List, [], ◌∷◌, Option, Some, None, option_to_list}
use Rattle.std.specs.List.{All, AllByRecursion}
use Rattle.std.proofs.lemmas.List.Elements.{All-nil, All-cons, All-head, All-tail}
use Rattle.proto_lex.specs.declared.span.Span.{Span}
use Rattle.proto_lex.specs.declared.token.Token.{Token}
use Rattle.proto_lex.specs.declared.token.TokenKind.{TokenKind}
use Rattle.proto_lex.specs.declared.token.TokenKind.TheVariants.{StringLiteral}
use Rattle.proto_parse.specs.tree.Heading.{Heading}
use Rattle.proto_parse.specs.tree.TypeName.{TypeName}
use Rattle.proto_parse.specs.tree.FieldType.{FieldType}
use Rattle.proto_parse.specs.tree.FieldType.TheVariants.{Scalar, Named}
use Rattle.proto_parse.specs.tree.Field.{Field}
use Rattle.proto_parse.specs.tree.MapField.{MapField}
use Rattle.proto_parse.specs.tree.Head.{Head}
use Rattle.proto_parse.specs.tree.Head.TheVariants as head
use Rattle.proto_parse.specs.tree.Method.{Method}
use Rattle.proto_parse.specs.tree.Import.{Import}
use Rattle.proto_parse.specs.tree.File.{File}
use Rattle.proto_parse.specs.Lexeme.{Lexeme, lexemes_of}
use Rattle.proto_parse.specs.Parts.{Part, parts_of}
use Rattle.proto_parse.specs.Parts.Part.{BlockPart, EnumPart, ValuePart, FieldPart, MapFieldPart, ServicePart}
use Rattle.proto_parse.specs.Parts.Part.{MethodPart}
use Rattle.proto_parse.specs.Walk.{Role, Mark, Among, marks_of_items, marks_of_imports, marks_of_package}
use Rattle.proto_parse.specs.Walk.{Role as role}
use Rattle.proto_parse.specs.Walk.Among.{none as no_marks, skip, token}
use Rattle.proto_parse.proofs.Walk.Then.{Name, Other, each_then, name_then, names_then, literal_then, dot_then}
use Rattle.proto_parse.proofs.Walk.Then.{type_name_then, type_then, heading_then, field_then, map_field_then}
use Rattle.proto_parse.proofs.Walk.Then.{head_then, method_then, part_then, import_then, parts_are, imports_are}
use Rattle.proto_parse.proofs.Walk.Then.{package_is}
use Rattle.proto_decl.specs.Spans.{OfHeading, OfSome, OfTypeName, OfType, OfHead, OfMethod, OfPart, OfPackage}

-- P holds of the marks' spans, and Q of those of literals
abbrev pub OfMark : (P Q : Span → Type 0) → Role → Span → Type 0
OfMark P Q role.Literal span = Q span
OfMark P Q _ span = P span

abbrev pub OfMarks : (P Q : Span → Type 0) → List Mark → Type 0
OfMarks P Q [] = Unit {0}
OfMarks P Q (mark ∷ marks) = OfMark P Q mark.role mark.span × OfMarks P Q marks

module _ (P Q : Span → Type 0) where
  -- P holds of a token's span, and Q too where the token is a string literal
  abbrev pub OfToken : TokenKind → Span → Type 0
  OfToken kind span = P span × (kind ≡ StringLiteral → Q span)

  abbrev OfLexemes : List Lexeme → Type 0
  OfLexemes lexemes = AllByRecursion (λ (t : Lexeme). OfToken t.kind t.span) lexemes

  of_lexemes : (text : List ℕ) (tokens : List Token) → All (λ t. OfToken t.kind t.span) tokens
      → OfLexemes (lexemes_of text tokens)
  of_lexemes text [] all = tt
  of_lexemes text (t ∷ tokens) all = (
    All-head (λ (x : Token). OfToken x.kind x.span) t tokens all,
    of_lexemes text tokens (All-tail (λ (x : Token). OfToken x.kind x.span) t tokens all),
  )

  of_marks : {marks : List Mark} {tokens : List Lexeme} → Among marks tokens → OfLexemes tokens → OfMarks P Q marks
  of_marks no_marks all = tt
  of_marks (skip among) all = of_marks among all.1
  of_marks (token {role = role.First} fits among) all = (all.0.0, of_marks among all)
  of_marks (token {role = role.Name} fits among) all = (all.0.0, of_marks among all.1)
  of_marks (token {role = role.Literal} fits among) all = (all.0.1 fits, of_marks among all.1)
  of_marks (token {role = role.Other} fits among) all = (all.0.0, of_marks among all.1)

  -- what holds of the marks of a part of a tree and those behind holds of the part, and of those behind

  each_of : {A : Type 0} (marks_then : A → List Mark → List Mark) (R : A → Type 0)
      → ((x : A) (marks : List Mark) → OfMarks P Q (marks_then x marks) → R x × OfMarks P Q marks)
      → (xs : List A) (marks : List Mark) → OfMarks P Q (each_then marks_then xs marks) → All R xs × OfMarks P Q marks
  each_of marks_then R part [] marks h = (All-nil R, h)
  each_of marks_then R part (x ∷ xs) marks h =
      let first = part x (each_then marks_then xs marks) h in
      let others = each_of marks_then R part xs marks first.1 in
      (All-cons R x xs first.0 others.0, others.1)

  names_of : (names : List Span) (marks : List Mark) → OfMarks P Q (names_then names marks)
      → All P names × OfMarks P Q marks
  names_of names marks h = each_of name_then P (λ name rest all. (all.0, all.1)) names marks h

  heading_of : (heading : Heading) (marks : List Mark) → OfMarks P Q (heading_then heading marks)
      → OfHeading P heading × OfMarks P Q marks
  heading_of heading marks h = ((h.0, h.1.0, h.1.1.0), h.1.1.1)

  dot_of : (dot : Option Span) (marks : List Mark) → OfMarks P Q (dot_then dot marks) → OfSome P dot × OfMarks P Q marks
  dot_of None marks h = (tt, h)
  dot_of (Some dot) marks h = (h.0, h.1)

  type_name_of : (name : TypeName) (marks : List Mark) → OfMarks P Q (type_name_then name marks)
      → OfTypeName P name × OfMarks P Q marks
  type_name_of name marks h =
      let dot = dot_of name.leading_dot (names_then name.components marks) h in
      let components = names_of name.components marks dot.1 in
      ((dot.0, components.0), components.1)

  type_of : (type : FieldType) (marks : List Mark) → OfMarks P Q (type_then type marks)
      → OfType P type × OfMarks P Q marks
  type_of (Scalar word) marks h = (h.0, h.1)
  type_of (Named name) marks h = type_name_of name marks h

  field_of : (field : Field) (marks : List Mark) → OfMarks P Q (field_then field marks)
      → OfPart P (FieldPart field) × OfMarks P Q marks
  field_of field marks h =
      let type = type_of field.field_type (Name field.heading.name ∷ (Other field.heading.closing ∷ marks)) h.1 in
      (((h.0, type.1.0, type.1.1.0), type.0), type.1.1.1)

  map_field_of : (field : MapField) (marks : List Mark) → OfMarks P Q (map_field_then field marks)
      → OfPart P (MapFieldPart field) × OfMarks P Q marks
  map_field_of field marks h =
      let value = type_of field.value (Name field.heading.name ∷ (Other field.heading.closing ∷ marks)) h.1.1 in
      (((h.0, value.1.0, value.1.1.0), value.0), value.1.1.1)

  head_of : (head : Head) (marks : List Mark) → OfMarks P Q (head_then head marks) → OfHead P head × OfMarks P Q marks
  head_of (head.Message heading) marks h = heading_of heading marks h
  head_of (head.Group group) marks h = (((h.0, h.1.1.0, h.1.1.1.0), h.1.0), h.1.1.1.1)
  head_of (head.Oneof heading) marks h = heading_of heading marks h
  head_of (head.Extend type) marks h = type_name_of type marks h

  method_of : (method : Method) (marks : List Mark) → OfMarks P Q (method_then method marks)
      → OfMethod P method × OfMarks P Q marks
  method_of method marks h =
      let input = type_name_of method.input (type_name_then method.output (Other method.heading.closing ∷ marks)) h.1.1
      in
      let output = type_name_of method.output (Other method.heading.closing ∷ marks) input.1 in
      (((h.0, h.1.0, output.1.0), input.0, output.0), output.1.1)

  part_of : (part : Part) (marks : List Mark) → OfMarks P Q (part_then part marks) → OfPart P part × OfMarks P Q marks
  part_of (BlockPart head) marks h = head_of head marks h
  part_of (EnumPart heading) marks h = heading_of heading marks h
  part_of (ValuePart heading) marks h = heading_of heading marks h
  part_of (FieldPart field) marks h = field_of field marks h
  part_of (MapFieldPart field) marks h = map_field_of field marks h
  part_of (ServicePart heading) marks h = heading_of heading marks h
  part_of (MethodPart method) marks h = method_of method marks h

  import_of : (import : Import) (marks : List Mark) → OfMarks P Q (import_then import marks)
      → All Q import.literals × OfMarks P Q marks
  import_of import marks h = each_of literal_then Q (λ literal rest all. (all.0, all.1)) import.literals marks h

  package_of : (package_name : Option (List Span)) (marks : List Mark)
      → OfMarks P Q (each_then names_then (option_to_list package_name) marks) → OfPackage P package_name
  package_of None marks h = tt
  package_of (Some names) marks h = (names_of names marks h).0

  -- what holds of the tokens' spans holds of those of the tree
  module _ (text : List ℕ) (tokens : List Token) (file : File) (all : All (λ t. OfToken t.kind t.span) tokens) where
    pub parts_hold : Among (marks_of_items file) (lexemes_of text tokens) → All (OfPart P) (parts_of file)
    parts_hold among = (each_of part_then (OfPart P) part_of (parts_of file) []
        (subst (OfMarks P Q) (sym (parts_are file.items)) (of_marks among (of_lexemes text tokens all)))).0

    pub imports_hold : Among (marks_of_imports file) (lexemes_of text tokens)
        → All (λ import. All Q import.literals) file.imports
    imports_hold among = (each_of import_then (λ (import : Import). All Q import.literals) import_of file.imports []
        (subst (OfMarks P Q) (sym (imports_are file)) (of_marks among (of_lexemes text tokens all)))).0

    pub package_holds : Among (marks_of_package file) (lexemes_of text tokens) → OfPackage P file.package_name
    package_holds among =
        package_of file.package_name []
        (subst (OfMarks P Q) (sym (package_is file)) (of_marks among (of_lexemes text tokens all)))
