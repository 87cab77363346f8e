-- The names of a file's package and those on the paths to its declarations are identifiers.
use Rattle.std.proofs.Common.{sym, subst, ℕ, Option, Some, None, List, [], ◌∷◌, ◌++◌, option_to_list}
use Rattle.std.specs.List.{All, AllZip, slice_index_or}
use Rattle.std.proofs.lemmas.List.Elements.{All-nil, All-cons, All-head, All-tail, All-push}
use Rattle.proto_lex.specs.Lexes.{Spells}
use Rattle.proto_lex.specs.Lexed.{Lexed, IsLexed, part_of}
use Rattle.proto_lex.specs.declared.span.Span.{Span}
use Rattle.proto_lex.specs.declared.token.TokenKind.{TokenKind}
use Rattle.proto_lex.specs.declared.token.TokenKind.TheVariants.{Identifier}
use Rattle.comment_texts.specs.declared.form.CommentForm.{CommentForm}
use Rattle.proto_decl.specs.declared.form.FactForm.{FactForm}
use Rattle.proto_parse.specs.Lexeme.{lexemes_of}
use Rattle.proto_parse.specs.tree.Heading.{Heading}
use Rattle.proto_parse.specs.tree.Field.{Field}
use Rattle.proto_parse.specs.tree.Method.{Method}
use Rattle.proto_parse.specs.tree.Head.{Head}
use Rattle.proto_parse.specs.tree.Head.TheVariants as head
use Rattle.proto_parse.specs.tree.FileItem.{FileItem}
use Rattle.proto_parse.specs.tree.File.{File}
use Rattle.proto_parse.specs.Parts.{Part, Placed, placed_parts, parts_in, parts_of}
use Rattle.proto_parse.specs.Parts.Part.{BlockPart, EnumPart, ValuePart, FieldPart, MapFieldPart, ServicePart}
use Rattle.proto_parse.specs.Parts.Part.{MethodPart}
use Rattle.proto_parse.specs.Walk.{Mark, Among, marks_of_items, marks_of_package}
use Rattle.proto_parse.proofs.PartLemmas.{flat-all, placed-all, items-around}
use Rattle.proto_parse.proofs.Walk.Then.{Name, Other, each_then, names_then, type_name_then, field_then, head_then}
use Rattle.proto_parse.proofs.Walk.Then.{method_then, parts_are, package_is}
use Rattle.proto_decl.specs.Names.{components_at, small_letters}
use Rattle.proto_decl.specs.Declares.{step_named, step_to, outline_at, group_field, within, scope_heading, in_head}
use Rattle.proto_decl.specs.Declares.{inside_part, declared_by, file_surrounding, package_spans, outlines_in}
use Rattle.proto_decl.specs.Declares.{outlines_of, IsDeclaration}
use Rattle.proto_decl.specs.Facts.{Facts, AreFactsOf}
use Rattle.proto_decl.specs.Laws.{component_names, AreNamed}
use Rattle.proto_decl.specs.declared.declaration.DeclarationKind.{DeclarationKind}
use Rattle.proto_decl.specs.declared.declaration.DeclarationKind.TheVariants as kind
use Rattle.proto_decl.specs.declared.declaration.DeclarationStep.{DeclarationStep}
use Rattle.proto_decl.specs.declared.declaration.Outline.{Outline}
use Rattle.proto_decl.specs.declared.declaration.Declaration.{Declaration}
use Rattle.proto_decl.specs.declared.uses.Component.{Component}
use Rattle.proto_decl.specs.declared.surrounding.Surrounding.{Surrounding}
use Rattle.proto_decl.proofs.SpanMarkLemmas.{OfNames, OfPartNames, of_lexemes, of_names, of_part_names, past_type_name}
use Rattle.proto_decl.proofs.SpanMarkLemmas.{past_type}
use Rattle.proto_decl.proofs.NameSmallLemmas.{identifier_small}

-- the names on a path are identifiers
abbrev IsSpelled : DeclarationStep → Type 0
IsSpelled step = Spells Identifier step.name

abbrev OnPath : List DeclarationStep → Type 0
OnPath path = All IsSpelled path

abbrev IsOnPath : Outline → Type 0
IsOnPath outline = OnPath outline.path

-- Where the names of a part of the tree are identifiers, and those on the path to it: so are those on the ways to all
-- that it declares,
-- and the names behind it.
module _ (text : List ℕ) where
  abbrev Ident : Span → Type 0
  Ident span = Spells Identifier (part_of text span)

  abbrev AreOnPaths : List Outline → Type 0
  AreOnPaths outlines = All IsOnPath outlines

  farther : (path : List DeclarationStep) (kind : DeclarationKind) (heading : Heading) → OnPath path
      → Ident heading.name → OnPath (path ++ step_to text kind heading ∷ [])
  farther path kind heading on_path name = All-push IsSpelled path (step_to text kind heading) on_path name

  field_on : (field : Field) (marks : List Mark) → OfNames Ident (field_then field marks)
      → Ident field.heading.name × OfNames Ident marks
  field_on field marks h = let behind =
      past_type Ident field.field_type (Name field.heading.name ∷ (Other field.heading.closing ∷ marks)) h in
      (behind.0, behind.1)

  method_on : (method : Method) (marks : List Mark) → OfNames Ident (method_then method marks)
      → Ident method.heading.name × OfNames Ident marks
  method_on method marks h = (
    h.0,
    past_type_name Ident method.output (Other method.heading.closing ∷ marks)
        (past_type_name Ident method.input (type_name_then method.output (Other method.heading.closing ∷ marks)) h.1),
  )

  -- what a block declares, and the path to what is in it
  head_on : (surrounding : Surrounding) (head : Head) (marks : List Mark) → OnPath surrounding.path
      → OfNames Ident (head_then head marks)
      → AreOnPaths (in_head text surrounding head) × OnPath (within text surrounding (scope_heading head)).path
      × OfNames Ident marks
  head_on surrounding (head.Message heading) marks on_path h =
      let self = farther surrounding.path kind.Message heading on_path h.0 in
      (All-cons IsOnPath (outline_at text surrounding kind.Message heading) [] self (All-nil IsOnPath), self, h.1)
  head_on surrounding (head.Group group) marks on_path h =
      let field = All-push IsSpelled surrounding.path
      (step_named kind.Field (small_letters (part_of text group.heading.name))) on_path
      (identifier_small (part_of text group.heading.name) h.1.0) in
      let self = farther surrounding.path kind.Message group.heading on_path h.1.0 in (
        All-cons IsOnPath (group_field text surrounding group)
            (outline_at text surrounding kind.Message group.heading ∷ [])
            field
            (All-cons IsOnPath (outline_at text surrounding kind.Message group.heading) [] self (All-nil IsOnPath)),
        self,
        h.1.1,
      )
  head_on surrounding (head.Oneof heading) marks on_path h = (
    All-cons IsOnPath (outline_at text surrounding kind.Oneof heading) []
        (farther surrounding.path kind.Oneof heading on_path h.0) (All-nil IsOnPath),
    on_path,
    h.1,
  )
  head_on surrounding (head.Extend type) marks on_path h =
      (All-nil IsOnPath, on_path, past_type_name Ident type marks h)

  alone_on : (surrounding : Surrounding) (kind : DeclarationKind) (heading : Heading) → OnPath surrounding.path
      → Ident heading.name → AreOnPaths (outline_at text surrounding kind heading ∷ [])
  alone_on surrounding kind heading on_path name =
      All-cons IsOnPath (outline_at text surrounding kind heading) []
      (farther surrounding.path kind heading on_path name) (All-nil IsOnPath)

  part_on : (surrounding : Surrounding) (part : Part) → OnPath surrounding.path → OfPartNames Ident part
      → AreOnPaths (declared_by text surrounding part)
  part_on surrounding (BlockPart head) on_path h = (head_on surrounding head [] on_path h).0
  part_on surrounding (EnumPart heading) on_path h = alone_on surrounding kind.Enum heading on_path h.0
  part_on surrounding (ValuePart heading) on_path h = alone_on surrounding kind.Value heading on_path h.0
  part_on surrounding (FieldPart field) on_path h =
      alone_on surrounding kind.Field field.heading on_path (field_on field [] h).0
  part_on surrounding (MapFieldPart field) on_path h =
      alone_on surrounding kind.Field field.heading on_path
      (past_type Ident field.value (Name field.heading.name ∷ (Other field.heading.closing ∷ [])) h.1).0
  part_on surrounding (ServicePart heading) on_path h = alone_on surrounding kind.Service heading on_path h.0
  part_on surrounding (MethodPart method) on_path h =
      alone_on surrounding kind.Method method.heading on_path (method_on method [] h).0

  inside_on : (surrounding : Surrounding) (part : Part) → OnPath surrounding.path → OfPartNames Ident part
      → OnPath (inside_part text surrounding part).path
  inside_on surrounding (BlockPart head) on_path h = (head_on surrounding head [] on_path h).1
  inside_on surrounding (EnumPart heading) on_path h = farther surrounding.path kind.Enum heading on_path h.0
  inside_on surrounding (ValuePart heading) on_path h = on_path
  inside_on surrounding (FieldPart field) on_path h = on_path
  inside_on surrounding (MapFieldPart field) on_path h = on_path
  inside_on surrounding (ServicePart heading) on_path h = farther surrounding.path kind.Service heading on_path h.0
  inside_on surrounding (MethodPart method) on_path h = on_path

  items_on : (surrounding : Surrounding) (items : List FileItem) → OnPath surrounding.path
      → All (OfPartNames Ident) (parts_in items) → AreOnPaths (outlines_in text surrounding items)
  items_on surrounding items on_path names =
      let around = items-around (inside_part text) (declared_by text)
      (λ (s : Surrounding). OnPath s.path) (OfPartNames Ident) (λ (o : Outline). Unit {0})
      (λ s part here h known. inside_on s part here h) surrounding items on_path names (λ k d h. tt) in
      let each = placed-all (inside_part text) (OfPartNames Ident) surrounding items names in
      flat-all (λ (p : Placed Surrounding). declared_by text p.around p.part)
      (λ (p : Placed Surrounding). OnPath p.around.path × OfPartNames Ident p.part) (λ (o : Outline). Unit {0}) IsOnPath
      (λ p both known. part_on p.around p.part both.0 both.1)
      (placed_parts (inside_part text) surrounding items)
      (λ k d h. (around k d h, each k d h)) (λ k d h. tt)

  components_on : (names : List Span) (marks : List Mark) → OfNames Ident (names_then names marks)
      → All (Spells Identifier) (component_names (components_at text names))
  components_on [] marks h = All-nil (Spells Identifier)
  components_on (name ∷ names) marks h =
      All-cons (Spells Identifier) (part_of text name) (component_names (components_at text names)) h.0
      (components_on names marks h.1)

  package_on : (package_name : Option (List Span))
      → OfNames Ident (each_then names_then (option_to_list package_name) [])
      → All (Spells Identifier) (component_names (components_at text (package_spans package_name)))
  package_on None h = All-nil (Spells Identifier)
  package_on (Some names) h = components_on names [] h

-- the names of a text's marks are identifiers
identifiers : (lexed : Lexed) → IsLexed lexed.text lexed.tokens lexed.comments → {marks : List Mark}
    → Among marks (lexemes_of lexed.text lexed.tokens) → OfNames (Ident lexed.text) marks
identifiers lexed is among =
    of_names (Ident lexed.text) among
    (of_lexemes (Ident lexed.text) lexed.text lexed.tokens
    (λ k d h kind. subst (λ (k' : TokenKind). Spells k' (part_of lexed.text (slice_index_or lexed.tokens k d).span))
    kind (is.spelled k d h)))

declared_on : (form : CommentForm) (lexed : Lexed) (os : List Outline) (ds : List Declaration)
    → AllZip (IsDeclaration form lexed) os ds
    → All IsOnPath os → All (λ (d : Declaration). OnPath d.path) ds
declared_on form lexed [] [] all on_paths = All-nil (λ (d : Declaration). OnPath d.path)
declared_on form lexed [] (d ∷ ds) all on_paths = absurd all
declared_on form lexed (o ∷ os) [] all on_paths = absurd all
declared_on form lexed (o ∷ os) (d ∷ ds) all on_paths =
    All-cons (λ (x : Declaration). OnPath x.path) d ds (subst OnPath (sym all.0.path) (All-head IsOnPath o os on_paths))
    (declared_on form lexed os ds all.1 (All-tail IsOnPath o os on_paths))

pub facts_named : (form : FactForm) (number : ℕ) (lexed : Lexed) (file : File) (facts : Facts)
    → IsLexed lexed.text lexed.tokens lexed.comments → AreFactsOf form number lexed file facts
    → Among (marks_of_items file) (lexemes_of lexed.text lexed.tokens)
    → Among (marks_of_package file) (lexemes_of lexed.text lexed.tokens)
    → AreNamed facts.package_name facts.declarations
facts_named form number lexed file facts is of_file items package_name = record {
  of_components = subst (λ (components : List Component). All (Spells Identifier) (component_names components))
      (sym of_file.package_name)
      (package_on lexed.text file.package_name
      (subst (OfNames (Ident lexed.text)) (sym (package_is file)) (identifiers lexed is package_name)));
  of_steps = declared_on form.comments lexed (outlines_of lexed.text file) facts.declarations of_file.declarations
      (items_on lexed.text (file_surrounding lexed.text file) file.items (All-nil IsSpelled)
      (of_part_names (Ident lexed.text) (parts_of file)
      (subst (OfNames (Ident lexed.text)) (sym (parts_are file.items)) (identifiers lexed is items))));
}
