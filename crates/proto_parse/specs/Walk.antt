-- Where the spans of a tree are among the tokens.
use Rattle.std.specs.Prelude.{◌≡◌, ℕ, ◌≤◌, ◌<◌, Bool, true, false, cond, Option, Some, None, option_to_list}
use Rattle.std.specs.Prelude.{List, [], ◌∷◌, ◌++◌, map}
use Rattle.std.specs.List.{flat_map}
use Rattle.proto_lex.specs.declared.span.Span.{Span}
use Rattle.proto_lex.specs.declared.token.TokenKind.{TokenKind}
use Rattle.proto_lex.specs.declared.token.TokenKind.TheVariants.{Identifier, StringLiteral}
use Rattle.proto_grammar.specs.declared.tree.Heading.{Heading}
use Rattle.proto_grammar.specs.declared.tree.TypeName.{TypeName}
use Rattle.proto_grammar.specs.declared.tree.FieldType.{FieldType}
use Rattle.proto_grammar.specs.declared.tree.FieldType.TheVariants.{Scalar, Named}
use Rattle.proto_grammar.specs.declared.tree.Field.{Field}
use Rattle.proto_grammar.specs.declared.tree.MapField.{MapField}
use Rattle.proto_grammar.specs.declared.tree.Group.{Group}
use Rattle.proto_grammar.specs.declared.tree.Head.{Head}
use Rattle.proto_grammar.specs.declared.tree.Head.TheVariants as head
use Rattle.proto_grammar.specs.declared.tree.Method.{Method}
use Rattle.proto_grammar.specs.declared.tree.FileItem.{FileItem}
use Rattle.proto_grammar.specs.declared.tree.Import.{Import}
use Rattle.proto_grammar.specs.declared.tree.File.{File}
use Rattle.proto_grammar.specs.Lexeme.{Lexeme}
use Rattle.proto_parse.specs.Parts.{Part, parts_in}
use Rattle.proto_parse.specs.Parts.Part.{BlockPart, EnumPart, ValuePart, FieldPart, MapFieldPart, ServicePart}
use Rattle.proto_parse.specs.Parts.Part.{MethodPart}

-- What a token is to a tree: a declaration's first token, an identifier, a string literal, or another token.
pub data Role : Type 0 where
  First : Role
  Name : Role
  Literal : Role
  Other : Role

pub record Mark : Type 0 where
  pub role : Role
  pub span : Span

abbrev pub mark : Role → Span → Mark
mark role span = record { role = role; span = span }

abbrev pub Fits : Role → TokenKind → Type 0
Fits Name kind = kind ≡ Identifier
Fits Literal kind = kind ≡ StringLiteral
Fits _ kind = Unit {0}

-- Whether the token may be the next mark's too.
abbrev pub is_shared : Role → Bool
is_shared First = true
is_shared _ = false

-- The marks are at tokens, in the order of the tokens.
pub data Among : List Mark → List Lexeme → Type 0 where
  none : {tokens : List Lexeme} → Among [] tokens
  skip : {marks : List Mark} {t : Lexeme} {rest : List Lexeme} → Among marks rest → Among marks (t ∷ rest)
  token : {role : Role} {marks : List Mark} {t : Lexeme} {rest : List Lexeme}
      → Fits role t.kind → Among marks (cond (is_shared role) (t ∷ rest) rest)
      → Among (mark role t.span ∷ marks) (t ∷ rest)

-- Where the mark behind this one may begin.
abbrev pub place_behind : Mark → ℕ
place_behind m = cond (is_shared m.role) m.span.start m.span.end

-- Each mark begins at the place or after it.
abbrev pub MarksAreInOrder : (place : ℕ) → List Mark → Type 0
MarksAreInOrder place [] = Unit {0}
MarksAreInOrder place (m ∷ marks) =
    (place ≤ m.span.start) × (m.span.start < m.span.end) × MarksAreInOrder (place_behind m) marks

-- The marks of each part of a tree, in their order.
abbrev pub names_marks : List Span → List Mark
names_marks spans = map (mark Name) spans

abbrev pub type_name_marks : TypeName → List Mark
type_name_marks type = map (mark Other) (option_to_list type.leading_dot) ++ names_marks type.components

abbrev pub type_marks : FieldType → List Mark
type_marks (Scalar word) = mark Name word ∷ []
type_marks (Named type) = type_name_marks type

abbrev pub heading_marks : Heading → List Mark
heading_marks heading =
    mark First heading.first ∷ (mark Name heading.name ∷ (mark Other heading.closing ∷ []))

abbrev pub field_marks : Field → List Mark
field_marks field = mark First field.heading.first
    ∷ (type_marks field.field_type ++ mark Name field.heading.name ∷ (mark Other field.heading.closing ∷ []))

abbrev pub map_field_marks : MapField → List Mark
map_field_marks field = mark First field.heading.first ∷ (mark Name field.key
    ∷ (type_marks field.value ++ mark Name field.heading.name ∷ (mark Other field.heading.closing ∷ [])))

abbrev pub group_marks : Group → List Mark
group_marks group = mark First group.heading.first
    ∷ (mark Name group.word ∷ (mark Name group.heading.name ∷ (mark Other group.heading.closing ∷ [])))

abbrev pub head_marks : Head → List Mark
head_marks (head.Message heading) = heading_marks heading
head_marks (head.Group group) = group_marks group
head_marks (head.Oneof heading) = heading_marks heading
head_marks (head.Extend type) = type_name_marks type

abbrev pub method_marks : Method → List Mark
method_marks method = mark First method.heading.first ∷ (mark Name method.heading.name
    ∷ (type_name_marks method.input ++ (type_name_marks method.output ++ mark Other method.heading.closing ∷ [])))

abbrev pub part_marks : Part → List Mark
part_marks (BlockPart head) = head_marks head
part_marks (EnumPart heading) = heading_marks heading
part_marks (ValuePart heading) = heading_marks heading
part_marks (FieldPart field) = field_marks field
part_marks (MapFieldPart field) = map_field_marks field
part_marks (ServicePart heading) = heading_marks heading
part_marks (MethodPart method) = method_marks method

abbrev pub marks_in : List FileItem → List Mark
marks_in items = flat_map part_marks (parts_in items)

-- Those of the messages, enums, services and extends of a file, of its imports, and of its package.
abbrev pub marks_of_items : File → List Mark
marks_of_items file = marks_in file.items

abbrev pub marks_of_imports : File → List Mark
marks_of_imports file = flat_map (λ (import : Import). map (mark Literal) import.literals) file.imports

abbrev pub marks_of_package : File → List Mark
marks_of_package file = flat_map names_marks (option_to_list file.package_name)

-- The package's name is between the items before the package statement and those after it.
abbrev pub IsAmongItems : (components : List Span) → List FileItem → List Lexeme → Type 0
IsAmongItems components items tokens =
    (before : List FileItem)
    × ((behind : List FileItem) × ((items ≡ before ++ behind)
    × Among (marks_in before ++ (names_marks components ++ marks_in behind)) tokens))

abbrev pub PackageIsAmongItems : Option (List Span) → List FileItem → List Lexeme → Type 0
PackageIsAmongItems None items tokens = Unit {0}
PackageIsAmongItems (Some components) items tokens = IsAmongItems components items tokens
