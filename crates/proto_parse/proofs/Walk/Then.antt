-- The marks of a part of a tree before others: the form in which proofs follow a walk.
use Rattle.std.proofs.Common.{◌≡◌, Option, Some, None, List, [], ◌∷◌, ◌++◌, map, option_to_list, refl, sym, ◌∙◌, ap}
use Rattle.std.proofs.Common.{append_assoc, append-nil}
use Rattle.std.specs.List.{flat_map}
use Rattle.proto_lex.specs.declared.span.Span.{Span}
use Rattle.proto_lex.specs.declared.token.TokenKind.TheVariants.{Identifier, StringLiteral}
use Rattle.proto_grammar.specs.declared.tree.Heading.{Heading}
use Rattle.proto_grammar.specs.declared.tree.TypeName.{TypeName}
use Rattle.proto_grammar.specs.declared.tree.FieldType.{FieldType}
use Rattle.proto_grammar.specs.declared.tree.FieldType.TheVariants.{Scalar, Named}
use Rattle.proto_grammar.specs.declared.tree.Field.{Field}
use Rattle.proto_grammar.specs.declared.tree.MapField.{MapField}
use Rattle.proto_grammar.specs.declared.tree.Enum.{Enum}
use Rattle.proto_grammar.specs.declared.tree.Group.{Group}
use Rattle.proto_grammar.specs.declared.tree.Head.{Head}
use Rattle.proto_grammar.specs.declared.tree.Head.TheVariants as head
use Rattle.proto_grammar.specs.declared.tree.Leaf.{Leaf}
use Rattle.proto_grammar.specs.declared.tree.Leaf.TheVariants as leaf
use Rattle.proto_grammar.specs.declared.tree.Method.{Method}
use Rattle.proto_grammar.specs.declared.tree.Service.{Service}
use Rattle.proto_grammar.specs.declared.tree.FileItem.{FileItem}
use Rattle.proto_grammar.specs.declared.tree.FileItem.TheVariants as item
use Rattle.proto_grammar.specs.declared.tree.Import.{Import}
use Rattle.proto_grammar.specs.declared.tree.File.{File}
use Rattle.proto_grammar.specs.Lexeme.{Lexeme}
use Rattle.proto_grammar.specs.Tree.{Body, BlockTree}
use Rattle.proto_grammar.specs.Tree.Body.{NoMore, LeafThen, BlockThen}
use Rattle.proto_parse.specs.Walk.{Mark, mark, Among, names_marks, type_name_marks, type_marks, heading_marks}
use Rattle.proto_parse.specs.Walk.{field_marks, map_field_marks, head_marks, method_marks, part_marks, marks_in}
use Rattle.proto_parse.specs.Walk.{marks_of_imports, marks_of_package}
use Rattle.proto_parse.specs.Walk.{Role as role}
use Rattle.proto_parse.specs.Walk.Among.{token}
use Rattle.proto_parse.specs.Parts.{Part, of_enum, of_leaf, of_body, of_service, of_item, anywhere, parts_in}
use Rattle.proto_parse.specs.Parts.Part.{BlockPart, EnumPart, ValuePart, FieldPart, MapFieldPart, ServicePart}
use Rattle.proto_parse.specs.Parts.Part.{MethodPart}
use Rattle.proto_parse.proofs.PartLemmas.{items-each}

-- ---- marks by their roles

abbrev pub First : Span → Mark
First span = mark role.First span

abbrev pub Name : Span → Mark
Name span = mark role.Name span

abbrev pub Literal : Span → Mark
Literal span = mark role.Literal span

abbrev pub Other : Span → Mark
Other span = mark role.Other span

pub at_first : {marks : List Mark} {t : Lexeme} {rest : List Lexeme} → Among marks (t ∷ rest)
    → Among (First t.span ∷ marks) (t ∷ rest)
at_first behind = token {role = role.First} tt behind

pub at_name : {marks : List Mark} {t : Lexeme} {rest : List Lexeme} → t.kind ≡ Identifier → Among marks rest
    → Among (Name t.span ∷ marks) (t ∷ rest)
at_name is behind = token {role = role.Name} is behind

pub at_literal : {marks : List Mark} {t : Lexeme} {rest : List Lexeme} → t.kind ≡ StringLiteral → Among marks rest
    → Among (Literal t.span ∷ marks) (t ∷ rest)
at_literal is behind = token {role = role.Literal} is behind

pub at_other : {marks : List Mark} {t : Lexeme} {rest : List Lexeme} → Among marks rest
    → Among (Other t.span ∷ marks) (t ∷ rest)
at_other behind = token {role = role.Other} tt behind

-- ---- before others

-- The marks of each of a list, in order, before others.
abbrev pub each_then : {A : Type 0} → (A → List Mark → List Mark) → List A → List Mark → List Mark
each_then marks_then [] marks = marks
each_then marks_then (x ∷ xs) marks = marks_then x (each_then marks_then xs marks)

-- The marks of the parts of a tree before others, in the order of a walk: a declaration before what is in it.
abbrev pub name_then : Span → List Mark → List Mark
name_then span marks = Name span ∷ marks

abbrev pub names_then : List Span → List Mark → List Mark
names_then = each_then name_then

abbrev pub literal_then : Span → List Mark → List Mark
literal_then span marks = Literal span ∷ marks

abbrev pub dot_then : Option Span → List Mark → List Mark
dot_then None marks = marks
dot_then (Some dot) marks = Other dot ∷ marks

abbrev pub type_name_then : TypeName → List Mark → List Mark
type_name_then type marks = dot_then type.leading_dot (names_then type.components marks)

abbrev pub type_then : FieldType → List Mark → List Mark
type_then (Scalar word) marks = Name word ∷ marks
type_then (Named type) marks = type_name_then type marks

abbrev pub heading_then : Heading → List Mark → List Mark
heading_then heading marks = First heading.first ∷ (Name heading.name ∷ (Other heading.closing ∷ marks))

abbrev pub field_then : Field → List Mark → List Mark
field_then field marks = First field.heading.first
    ∷ type_then field.field_type (Name field.heading.name ∷ (Other field.heading.closing ∷ marks))

abbrev pub map_field_then : MapField → List Mark → List Mark
map_field_then field marks = First field.heading.first
    ∷ (Name field.key ∷ type_then field.value (Name field.heading.name ∷ (Other field.heading.closing ∷ marks)))

abbrev pub enum_then : Enum → List Mark → List Mark
enum_then enum marks = heading_then enum.heading (each_then heading_then enum.values marks)

abbrev pub group_then : Group → List Mark → List Mark
group_then group marks = First group.heading.first
    ∷ (Name group.word ∷ (Name group.heading.name ∷ (Other group.heading.closing ∷ marks)))

abbrev pub head_then : Head → List Mark → List Mark
head_then (head.Message heading) marks = heading_then heading marks
head_then (head.Group group) marks = group_then group marks
head_then (head.Oneof heading) marks = heading_then heading marks
head_then (head.Extend type) marks = type_name_then type marks

abbrev pub leaf_then : Leaf → List Mark → List Mark
leaf_then (leaf.Enum enum) marks = enum_then enum marks
leaf_then (leaf.Field field) marks = field_then field marks
leaf_then (leaf.MapField field) marks = map_field_then field marks

abbrev pub body_then : Body → List Mark → List Mark
body_then NoMore marks = marks
body_then (LeafThen leaf others) marks = leaf_then leaf (body_then others marks)
body_then (BlockThen head inner others) marks = head_then head (body_then inner (body_then others marks))

abbrev pub block_then : BlockTree → List Mark → List Mark
block_then block marks = head_then block.head (body_then block.body marks)

abbrev pub method_then : Method → List Mark → List Mark
method_then method marks =
    First method.heading.first ∷ (Name method.heading.name
    ∷ type_name_then method.input (type_name_then method.output (Other method.heading.closing ∷ marks)))

abbrev pub service_then : Service → List Mark → List Mark
service_then service marks = heading_then service.heading (each_then method_then service.methods marks)

abbrev pub item_then : FileItem → List Mark → List Mark
item_then (item.Block block) marks = block_then block marks
item_then (item.Enum enum) marks = enum_then enum marks
item_then (item.Service service) marks = service_then service marks

abbrev pub import_then : Import → List Mark → List Mark
import_then import marks = each_then literal_then import.literals marks

-- ---- each is its marks, and the others behind them

abbrev marks_by : Unit {0} → Part → List Mark
marks_by around part = part_marks part

abbrev enum_marks : Enum → List Mark
enum_marks enum = of_enum anywhere marks_by tt enum

abbrev leaf_marks : Leaf → List Mark
leaf_marks leaf = of_leaf anywhere marks_by tt leaf

abbrev body_marks : Body → List Mark
body_marks body = of_body anywhere marks_by tt body

abbrev service_marks : Service → List Mark
service_marks service = of_service anywhere marks_by tt service

abbrev item_marks : FileItem → List Mark
item_marks item = of_item anywhere marks_by tt item

marks-in : (items : List FileItem) → flat_map item_marks items ≡ marks_in items
marks-in items = items-each anywhere (λ around part. part) part_marks tt items

each-is : {A : Type 0} (marks_then : A → List Mark → List Mark) (marks_of : A → List Mark)
    → ((x : A) (marks : List Mark) → marks_then x marks ≡ marks_of x ++ marks) → (xs : List A) (marks : List Mark)
    → each_then marks_then xs marks ≡ flat_map marks_of xs ++ marks
each-is marks_then marks_of is [] marks = refl
each-is marks_then marks_of is (x ∷ xs) marks =
    is x (each_then marks_then xs marks)
    ∙ ap (λ others. marks_of x ++ others) (each-is marks_then marks_of is xs marks)
    ∙ sym (append_assoc (marks_of x) (flat_map marks_of xs) marks)

names-are : (spans : List Span) (marks : List Mark) → names_then spans marks ≡ names_marks spans ++ marks
names-are [] marks = refl
names-are (span ∷ spans) marks = ap (λ others. Name span ∷ others) (names-are spans marks)

import-is : (import : Import) (marks : List Mark)
    → import_then import marks ≡ map (mark role.Literal) import.literals ++ marks
import-is import marks = literals_are import.literals
  where
    literals_are : (spans : List Span)
        → each_then literal_then spans marks ≡ map (mark role.Literal) spans ++ marks
    literals_are [] = refl
    literals_are (span ∷ spans) = ap (λ others. Literal span ∷ others) (literals_are spans)

dot-is : (dot : Option Span) (marks : List Mark)
    → dot_then dot marks ≡ map (mark role.Other) (option_to_list dot) ++ marks
dot-is None marks = refl
dot-is (Some dot) marks = refl

type_name-is : (type : TypeName) (marks : List Mark) → type_name_then type marks ≡ type_name_marks type ++ marks
type_name-is type marks =
    let dot : List Mark = map (mark role.Other) (option_to_list type.leading_dot) in
    dot-is type.leading_dot (names_then type.components marks)
    ∙ ap (λ others. dot ++ others) (names-are type.components marks)
    ∙ sym (append_assoc dot (names_marks type.components) marks)

type-is : (type : FieldType) (marks : List Mark) → type_then type marks ≡ type_marks type ++ marks
type-is (Scalar word) marks = refl
type-is (Named type) marks = type_name-is type marks

heading-is : (heading : Heading) (marks : List Mark) → heading_then heading marks ≡ heading_marks heading ++ marks
heading-is heading marks = refl

-- behind a field's type
typed-is : (type : FieldType) (heading : Heading) (marks : List Mark)
    → type_then type (Name heading.name ∷ (Other heading.closing ∷ marks))
    ≡ (type_marks type ++ Name heading.name ∷ (Other heading.closing ∷ [])) ++ marks
typed-is type heading marks =
    type-is type (Name heading.name ∷ (Other heading.closing ∷ marks))
    ∙ sym (append_assoc (type_marks type) (Name heading.name ∷ (Other heading.closing ∷ [])) marks)

field-is : (field : Field) (marks : List Mark) → field_then field marks ≡ field_marks field ++ marks
field-is field marks =
    ap (λ others. First field.heading.first ∷ others) (typed-is field.field_type field.heading marks)

map_field-is : (field : MapField) (marks : List Mark) → map_field_then field marks ≡ map_field_marks field ++ marks
map_field-is field marks =
    ap (λ others. First field.heading.first ∷ (Name field.key ∷ others)) (typed-is field.value field.heading marks)

enum-is : (enum : Enum) (marks : List Mark) → enum_then enum marks ≡ enum_marks enum ++ marks
enum-is enum marks =
    ap (λ others. heading_marks enum.heading ++ others)
    (each-is heading_then heading_marks heading-is enum.values marks)
    ∙ sym (append_assoc (heading_marks enum.heading) (flat_map heading_marks enum.values) marks)

head-is : (head : Head) (marks : List Mark) → head_then head marks ≡ head_marks head ++ marks
head-is (head.Message heading) marks = refl
head-is (head.Group group) marks = refl
head-is (head.Oneof heading) marks = refl
head-is (head.Extend type) marks = type_name-is type marks

leaf-is : (leaf : Leaf) (marks : List Mark) → leaf_then leaf marks ≡ leaf_marks leaf ++ marks
leaf-is (leaf.Enum enum) marks = enum-is enum marks
leaf-is (leaf.Field field) marks = field-is field marks
leaf-is (leaf.MapField field) marks = map_field-is field marks

body-is : (body : Body) (marks : List Mark) → body_then body marks ≡ body_marks body ++ marks
body-is NoMore marks = refl
body-is (LeafThen leaf others) marks =
    leaf-is leaf (body_then others marks)
    ∙ ap (λ behind. leaf_marks leaf ++ behind) (body-is others marks)
    ∙ sym (append_assoc (leaf_marks leaf) (body_marks others) marks)
body-is (BlockThen head inner others) marks =
    head-is head (body_then inner (body_then others marks))
    ∙ ap (λ behind. head_marks head ++ behind)
    (body-is inner (body_then others marks)
    ∙ ap (λ behind. body_marks inner ++ behind) (body-is others marks)
    ∙ sym (append_assoc (body_marks inner) (body_marks others) marks))
    ∙ sym (append_assoc (head_marks head) (body_marks inner ++ body_marks others) marks)

block-is : (block : BlockTree) (marks : List Mark)
    → block_then block marks ≡ (head_marks block.head ++ body_marks block.body) ++ marks
block-is block marks =
    head-is block.head (body_then block.body marks)
    ∙ ap (λ behind. head_marks block.head ++ behind) (body-is block.body marks)
    ∙ sym (append_assoc (head_marks block.head) (body_marks block.body) marks)

method-is : (method : Method) (marks : List Mark) → method_then method marks ≡ method_marks method ++ marks
method-is method marks =
    let closing : List Mark = Other method.heading.closing ∷ [] in
    ap (λ others. First method.heading.first ∷ (Name method.heading.name ∷ others))
    (type_name-is method.input (type_name_then method.output (Other method.heading.closing ∷ marks))
    ∙ ap (λ others. type_name_marks method.input ++ others)
    (type_name-is method.output (Other method.heading.closing ∷ marks)
    ∙ sym (append_assoc (type_name_marks method.output) closing marks))
    ∙ sym (append_assoc (type_name_marks method.input) (type_name_marks method.output ++ closing) marks))

service-is : (service : Service) (marks : List Mark) → service_then service marks ≡ service_marks service ++ marks
service-is service marks =
    ap (λ others. heading_marks service.heading ++ others)
    (each-is method_then method_marks method-is service.methods marks)
    ∙ sym (append_assoc (heading_marks service.heading) (flat_map method_marks service.methods) marks)

item-is : (item : FileItem) (marks : List Mark) → item_then item marks ≡ item_marks item ++ marks
item-is (item.Block block) marks = block-is block marks
item-is (item.Enum enum) marks = enum-is enum marks
item-is (item.Service service) marks = service-is service marks

-- ---- part by part

abbrev pub part_then : Part → List Mark → List Mark
part_then (BlockPart head) marks = head_then head marks
part_then (EnumPart heading) marks = heading_then heading marks
part_then (ValuePart heading) marks = heading_then heading marks
part_then (FieldPart field) marks = field_then field marks
part_then (MapFieldPart field) marks = map_field_then field marks
part_then (ServicePart heading) marks = heading_then heading marks
part_then (MethodPart method) marks = method_then method marks

pub part-is : (part : Part) (marks : List Mark) → part_then part marks ≡ part_marks part ++ marks
part-is (BlockPart head) marks = head-is head marks
part-is (EnumPart heading) marks = refl
part-is (ValuePart heading) marks = refl
part-is (FieldPart field) marks = field-is field marks
part-is (MapFieldPart field) marks = map_field-is field marks
part-is (ServicePart heading) marks = refl
part-is (MethodPart method) marks = method-is method marks

pub parts_are : (items : List FileItem) → each_then part_then (parts_in items) [] ≡ marks_in items
parts_are items = each-is part_then part_marks part-is (parts_in items) [] ∙ append-nil (marks_in items)

-- ---- all of a file

pub items_are : (items : List FileItem) → each_then item_then items [] ≡ marks_in items
items_are items =
    each-is item_then item_marks item-is items [] ∙ append-nil (flat_map item_marks items) ∙ marks-in items

pub imports_are : (file : File) → each_then import_then file.imports [] ≡ marks_of_imports file
imports_are file =
    each-is import_then (λ (import : Import). map (mark role.Literal) import.literals) import-is file.imports []
    ∙ append-nil (marks_of_imports file)

pub package_is : (file : File)
    → each_then names_then (option_to_list file.package_name) [] ≡ marks_of_package file
package_is file =
    each-is names_then names_marks names-are (option_to_list file.package_name) [] ∙ append-nil (marks_of_package file)

-- a package's name between items
pub between_are : (before behind : List FileItem) (components : List Span)
    → each_then item_then before (names_then components (each_then item_then behind []))
    ≡ marks_in before ++ (names_marks components ++ marks_in behind)
between_are before behind components =
    each-is item_then item_marks item-is before (names_then components (each_then item_then behind []))
    ∙ ap (λ front. front ++ names_then components (each_then item_then behind [])) (marks-in before)
    ∙ ap (λ others. marks_in before ++ others)
    (names-are components (each_then item_then behind [])
    ∙ ap (λ others. names_marks components ++ others) (items_are behind))
