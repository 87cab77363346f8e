-- What a file declares, in order of the names' places (proto3 specification, "Top Level definitions"; proto3
-- language guide, "Enumerations" and "Oneof", for the scopes of values and of a oneof's fields; proto2
-- specification, "Group field" and "Extend").
use Rattle.std.specs.Prelude.{ℕ, Option, Some, None, List, [], ◌∷◌, ◌++◌, map, ◌≡◌}
use Rattle.std.specs.List.{flat_map, AllZip}
use Rattle.proto_lex.specs.declared.span.Span.{Span}
use Rattle.proto_lex.specs.Lexed.{part_of, Lexed}
use Rattle.comment_texts.specs.declared.form.CommentForm.{CommentForm}
use Rattle.proto_parse.specs.tree.Heading.{Heading}
use Rattle.proto_parse.specs.tree.Group.{Group}
use Rattle.proto_parse.specs.tree.Head.{Head}
use Rattle.proto_parse.specs.tree.FileItem.{FileItem}
use Rattle.proto_parse.specs.tree.File.{File}
use Rattle.proto_parse.specs.Parts.{Part, placed_parts}
use Rattle.proto_parse.specs.Parts.Part.{BlockPart, EnumPart, ValuePart, FieldPart, MapFieldPart, ServicePart}
use Rattle.proto_parse.specs.Parts.Part.{MethodPart}
use Rattle.proto_parse.specs.tree.Head.TheVariants as head
use Rattle.proto_decl.specs.Names.{qualified, dotted, small_letters}
use Rattle.proto_decl.specs.declared.declaration.DeclarationKind.{DeclarationKind}
use Rattle.proto_decl.specs.declared.declaration.DeclarationKind.TheVariants.{Message, Enum as EnumKind}
use Rattle.proto_decl.specs.declared.declaration.DeclarationKind.TheVariants.{Service as ServiceKind, Field}
use Rattle.proto_decl.specs.declared.declaration.DeclarationKind.TheVariants.{Oneof as OneofKind, Value, Method}
use Rattle.proto_decl.specs.declared.declaration.DeclarationStep.{DeclarationStep}
use Rattle.proto_decl.specs.declared.declaration.Outline.{Outline}
use Rattle.proto_decl.specs.declared.surrounding.Surrounding.{Surrounding}
use Rattle.proto_decl.specs.Comments.{IsLeadingText, IsTrailingText}
use Rattle.proto_decl.specs.declared.declaration.Declaration.{Declaration}

-- ---- what is declared, without comments

abbrev pub heading_name : (text : List ℕ) → Heading → List ℕ
heading_name text heading = part_of text heading.name

abbrev pub step_named : DeclarationKind → (name : List ℕ) → DeclarationStep
step_named kind name = record { kind = kind; name = name }

abbrev pub step_to : (text : List ℕ) → DeclarationKind → Heading → DeclarationStep
step_to text kind heading = step_named kind (heading_name text heading)

-- A declaration with this simple name, which is at this heading.
abbrev pub outline_named : Surrounding → DeclarationKind → (name : List ℕ) → Heading → Outline
outline_named surrounding kind name heading = record {
  kind = kind;
  full_name = qualified surrounding.scope name;
  path = surrounding.path ++ step_named kind name ∷ [];
  heading = heading;
}

-- A declaration that is named as it stands.
abbrev pub outline_at : (text : List ℕ) → Surrounding → DeclarationKind → Heading → Outline
outline_at text surrounding kind heading = outline_named surrounding kind (heading_name text heading) heading

-- What surrounds what is in a message or in a service: both are scopes.
abbrev pub inside : (text : List ℕ) → Surrounding → DeclarationKind → Heading → Surrounding
inside text surrounding kind heading = record {
  scope = qualified surrounding.scope (heading_name text heading);
  path = surrounding.path ++ step_to text kind heading ∷ [];
}

-- What surrounds an enum's values: the enum's scope, and the path through the enum.
abbrev pub beside : (text : List ℕ) → Surrounding → DeclarationKind → Heading → Surrounding
beside text surrounding kind heading =
    record { scope = surrounding.scope; path = surrounding.path ++ step_to text kind heading ∷ [] }

-- A group declares a field, which is named as the group, but in small letters. It is at the word `group` (the
-- profile's, so that no two declarations have one place).
abbrev pub field_heading : Group → Heading
field_heading group =
    record { first = group.heading.first; name = group.word; closing = group.heading.closing }

abbrev pub group_field : (text : List ℕ) → Surrounding → Group → Outline
group_field text surrounding group =
    outline_named surrounding Field (small_letters (heading_name text group.heading)) (field_heading group)

-- What a block declares, without what is in it. A group also declares a message. An extend declares nothing.
abbrev pub in_head : (text : List ℕ) → Surrounding → Head → List Outline
in_head text surrounding (head.Message heading) = outline_at text surrounding Message heading ∷ []
in_head text surrounding (head.Group group) =
    group_field text surrounding group ∷ (outline_at text surrounding Message group.heading ∷ [])
in_head text surrounding (head.Oneof heading) = outline_at text surrounding OneofKind heading ∷ []
in_head text surrounding (head.Extend type) = []

-- The heading of a block that is a scope: of a message or a group. A oneof and an extend are none.
abbrev pub scope_heading : Head → Option Heading
scope_heading (head.Message heading) = Some heading
scope_heading (head.Group group) = Some group.heading
scope_heading (head.Oneof heading) = None
scope_heading (head.Extend type) = None

-- What surrounds what is in a block. What is in a oneof has the surroundings of the oneof. What is in an extend has
-- those of the extend: a field is declared where the extend is, and not in the type that is extended.
abbrev pub within : (text : List ℕ) → Surrounding → Option Heading → Surrounding
within text surrounding None = surrounding
within text surrounding (Some heading) = inside text surrounding Message heading

-- What surrounds what is in a part, by what surrounds the part.
abbrev pub inside_part : (text : List ℕ) → Surrounding → Part → Surrounding
inside_part text surrounding (BlockPart head) = within text surrounding (scope_heading head)
inside_part text surrounding (EnumPart heading) = beside text surrounding EnumKind heading
inside_part text surrounding (ServicePart heading) = inside text surrounding ServiceKind heading
inside_part text surrounding _ = surrounding

-- What a part declares.
abbrev pub declared_by : (text : List ℕ) → Surrounding → Part → List Outline
declared_by text surrounding (BlockPart head) = in_head text surrounding head
declared_by text surrounding (EnumPart heading) = outline_at text surrounding EnumKind heading ∷ []
declared_by text surrounding (ValuePart heading) = outline_at text surrounding Value heading ∷ []
declared_by text surrounding (FieldPart field) = outline_at text surrounding Field field.heading ∷ []
declared_by text surrounding (MapFieldPart field) = outline_at text surrounding Field field.heading ∷ []
declared_by text surrounding (ServicePart heading) = outline_at text surrounding ServiceKind heading ∷ []
declared_by text surrounding (MethodPart method) = outline_at text surrounding Method method.heading ∷ []

-- The spans of a package's components; none if a file has no package.
abbrev pub package_spans : Option (List Span) → List Span
package_spans None = []
package_spans (Some spans) = spans

-- The full name of a file's package.
abbrev pub package_scope : (text : List ℕ) → File → List ℕ
package_scope text file = dotted (map (part_of text) (package_spans file.package_name))

-- What surrounds what is in a file: its package's scope.
abbrev pub file_surrounding : (text : List ℕ) → File → Surrounding
file_surrounding text file = record { scope = package_scope text file; path = [] }

-- All that items declare that this surrounds, part by part.
abbrev pub outlines_in : (text : List ℕ) → Surrounding → List FileItem → List Outline
outlines_in text surrounding items =
    flat_map (λ placed. declared_by text placed.around placed.part) (placed_parts (inside_part text) surrounding items)

-- All that a file declares.
abbrev pub outlines_of : (text : List ℕ) → File → List Outline
outlines_of text file = outlines_in text (file_surrounding text file) file.items

-- ---- the same, with the comments that document it, their texts in a form

pub record IsDeclaration (form : CommentForm) (lexed : Lexed) (outline : Outline)
    (declaration : Declaration) : Type 0 where
  pub kind : declaration.kind ≡ outline.kind
  pub full_name : declaration.full_name ≡ outline.full_name
  pub path : declaration.path ≡ outline.path
  pub name : declaration.name ≡ outline.heading.name
  pub leading : IsLeadingText form lexed outline.heading.first declaration.leading
  pub trailing : IsTrailingText form lexed outline.heading.closing declaration.trailing

-- The declarations of a file, in order of their names' places.
abbrev pub Declares : CommentForm → Lexed → File → List Declaration → Type 0
Declares form lexed file declarations = AllZip (IsDeclaration form lexed) (outlines_of lexed.text file) declarations

-- The simple name of what a path leads to.
abbrev pub simple_name : List DeclarationStep → List ℕ
simple_name [] = []
simple_name (step ∷ []) = step.name
simple_name (step ∷ (next ∷ others)) = simple_name (next ∷ others)
