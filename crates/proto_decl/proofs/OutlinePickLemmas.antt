-- The declared names of a part of the tree and the components of its uses are picked from its marks, in their order.
use Rattle.std.proofs.Common.{◌≡◌, ◌∙◌, sym, ap, refl, subst, ℕ, List, [], ◌∷◌, ◌++◌, map, Option, Some, None}
use Rattle.std.proofs.Common.{Bool, true, false, append-nil}
use Rattle.std.specs.List.{flat_map}
use Rattle.std.proofs.lemmas.List.{map-append}
use Rattle.std.proofs.lemmas.Grind.{flat_map-append}
use Rattle.proto_lex.specs.declared.span.Span.{Span}
use Rattle.proto_parse.specs.tree.Heading.{Heading}
use Rattle.proto_parse.specs.tree.TypeName.{TypeName}
use Rattle.proto_parse.specs.tree.FieldType.{FieldType}
use Rattle.proto_parse.specs.tree.FieldType.TheVariants.{Scalar, Named}
use Rattle.proto_parse.specs.tree.Field.{Field}
use Rattle.proto_parse.specs.tree.MapField.{MapField}
use Rattle.proto_parse.specs.tree.Enum.{Enum}
use Rattle.proto_parse.specs.tree.Head.{Head}
use Rattle.proto_parse.specs.tree.Head.TheVariants as head
use Rattle.proto_parse.specs.tree.Leaf.{Leaf}
use Rattle.proto_parse.specs.tree.Leaf.TheVariants as leaf
use Rattle.proto_parse.specs.tree.Method.{Method}
use Rattle.proto_parse.specs.tree.Service.{Service}
use Rattle.proto_parse.specs.tree.FileItem.{FileItem}
use Rattle.proto_parse.specs.tree.FileItem.TheVariants as item
use Rattle.proto_parse.specs.Tree.{Body, BlockTree}
use Rattle.proto_parse.specs.Tree.Body.{NoMore, LeafThen, BlockThen}
use Rattle.proto_parse.specs.Walk.{Mark}
use Rattle.proto_parse.proofs.Walk.Then.{Name, Other, each_then, names_then, dot_then, type_name_then, type_then}
use Rattle.proto_parse.proofs.Walk.Then.{heading_then, field_then, map_field_then, enum_then, head_then, leaf_then}
use Rattle.proto_parse.proofs.Walk.Then.{body_then, block_then, method_then, service_then, item_then}
use Rattle.proto_parse.specs.Parts.Part.{ValuePart, MethodPart}
use Rattle.proto_decl.specs.Names.{components_at}
use Rattle.proto_decl.specs.Declares.{inside, beside, within, scope_heading, in_head, declared_by, outlines_in}
use Rattle.proto_decl.specs.Uses.{use_of, uses_in}
use Rattle.proto_decl.specs.Walked.{in_enum, in_leaf, in_body, in_block, in_service, in_item, uses_of_type}
use Rattle.proto_decl.specs.Walked.{uses_of_head, uses_of_method, uses_in_leaf, uses_in_body, uses_in_block}
use Rattle.proto_decl.specs.Walked.{uses_in_service, uses_in_item}
use Rattle.proto_decl.proofs.WalkedLemmas.{outlines_are, uses_are, enum_uses_none}
use Rattle.proto_decl.specs.Facts.{use_spans}
use Rattle.proto_decl.specs.declared.declaration.DeclarationKind.TheVariants as kind
use Rattle.proto_decl.specs.declared.declaration.Outline.{Outline}
use Rattle.proto_decl.specs.declared.surrounding.Surrounding.{Surrounding}
use Rattle.proto_decl.specs.declared.uses.Component.{Component}
use Rattle.proto_decl.specs.declared.uses.Use.{Use}

-- Names and components are picked from marks, each mark once at most, up to the marks behind.
pub data Picked : (marks : List Mark) (names components : List Span) (behind : List Mark) → Type 0 where
  none : {marks : List Mark} → Picked marks [] [] marks
  skip : {mark : Mark} {marks behind : List Mark} {names components : List Span} → Picked marks names components behind
      → Picked (mark ∷ marks) names components behind
  a_name : {span : Span} {marks behind : List Mark} {names components : List Span}
      → Picked marks names components behind → Picked (Name span ∷ marks) (span ∷ names) components behind
  a_component : {span : Span} {marks behind : List Mark} {names components : List Span}
      → Picked marks names components behind → Picked (Name span ∷ marks) names (span ∷ components) behind

pub join : {marks middle behind : List Mark} {names more_names components more_components : List Span}
    → Picked marks names components middle → Picked middle more_names more_components behind
    → Picked marks (names ++ more_names) (components ++ more_components) behind
join none more = more
join (skip first) more = skip (join first more)
join (a_name first) more = a_name (join first more)
join (a_component first) more = a_component (join first more)

pub retyped : {marks behind : List Mark} {names same_names components same_components : List Span} → names ≡ same_names
    → components ≡ same_components
    → Picked marks names components behind → Picked marks same_names same_components behind
retyped {marks} {behind} {names} {same_names} {components} e f p =
    subst (λ (xs : List Span). Picked marks same_names xs behind) f
    (subst (λ (xs : List Span). Picked marks xs components behind) e p)

each_picked : {A : Type 0} (marks_then : A → List Mark → List Mark) (names components : A → List Span)
    → ((x : A) (behind : List Mark) → Picked (marks_then x behind) (names x) (components x) behind)
    → (xs : List A) (behind : List Mark)
    → Picked (each_then marks_then xs behind) (flat_map names xs) (flat_map components xs) behind
each_picked marks_then names components picked [] behind = none
each_picked marks_then names components picked (x ∷ xs) behind =
    join (picked x (each_then marks_then xs behind)) (each_picked marks_then names components picked xs behind)

-- lists of names and of components

-- where the declared names stand
abbrev pub heading_names : List Outline → List Span
heading_names outlines = map (λ (outline : Outline). outline.heading.name) outlines

names_flat : {A : Type 0} (k : A → List Outline) (xs : List A)
    → flat_map (λ x. heading_names (k x)) xs ≡ heading_names (flat_map k xs)
names_flat k [] = refl
names_flat k (x ∷ xs) = ap (λ ys. heading_names (k x) ++ ys) (names_flat k xs)
    ∙ sym (map-append (λ (outline : Outline). outline.heading.name) (k x) (flat_map k xs))

components_flat : {A : Type 0} (k : A → List Use) (xs : List A)
    → flat_map (λ x. use_spans (k x)) xs ≡ use_spans (flat_map k xs)
components_flat k [] = refl
components_flat k (x ∷ xs) =
    ap (λ ys. use_spans (k x) ++ ys) (components_flat k xs)
    ∙ sym (flat_map-append (λ (used : Use). map (λ (component : Component). component.span) used.components) (k x)
    (flat_map k xs))

abbrev no_spans : {A : Type 0} → A → List Span
no_spans x = []

none_each : {A : Type 0} (xs : List A) → flat_map no_spans xs ≡ []
none_each [] = refl
none_each (x ∷ xs) = none_each xs

pub spans_of_components : (text : List ℕ) (spans : List Span)
    → map (λ (component : Component). component.span) (components_at text spans) ≡ spans
spans_of_components text [] = refl
spans_of_components text (span ∷ spans) = ap (λ ys. span ∷ ys) (spans_of_components text spans)

components_of_use : (is_extended : Bool) (text scope : List ℕ) (name : TypeName)
    → name.components ≡ use_spans (use_of is_extended text scope name ∷ [])
components_of_use is_extended text scope name = sym (append-nil _ ∙ spans_of_components text name.components)

pub names-append : (outlines others : List Outline)
    → heading_names outlines ++ heading_names others ≡ heading_names (outlines ++ others)
names-append outlines others = sym (map-append (λ (outline : Outline). outline.heading.name) outlines others)

pub components-append : (uses others : List Use) → use_spans uses ++ use_spans others ≡ use_spans (uses ++ others)
components-append uses others =
    sym (flat_map-append (λ (used : Use). map (λ (component : Component). component.span) used.components) uses others)

-- the parts of a tree

as_names : (spans : List Span) (behind : List Mark) → Picked (names_then spans behind) spans [] behind
as_names [] behind = none
as_names (span ∷ spans) behind = a_name (as_names spans behind)

as_components : (spans : List Span) (behind : List Mark) → Picked (names_then spans behind) [] spans behind
as_components [] behind = none
as_components (span ∷ spans) behind = a_component (as_components spans behind)

dot_picked : (dot : Option Span) (components : List Span) (behind : List Mark)
    → Picked (dot_then dot (names_then components behind)) [] components behind
dot_picked None components behind = as_components components behind
dot_picked (Some dot) components behind = skip (as_components components behind)

type_name_picked : (is_extended : Bool) (text scope : List ℕ) (name : TypeName) (behind : List Mark)
    → Picked (type_name_then name behind) [] (use_spans (use_of is_extended text scope name ∷ [])) behind
type_name_picked is_extended text scope name behind =
    retyped refl (components_of_use is_extended text scope name) (dot_picked name.leading_dot name.components behind)

type_picked : (text scope : List ℕ) (type : FieldType) (behind : List Mark)
    → Picked (type_then type behind) [] (use_spans (uses_of_type text scope type)) behind
type_picked text scope (Scalar word) behind = skip none
type_picked text scope (Named name) behind = type_name_picked false text scope name behind

-- behind a type, a name and a closing token
closed : (components : List Span) (marks : List Mark) (name closing : Span) (behind : List Mark)
    → Picked marks [] components (Name name ∷ (Other closing ∷ behind)) → Picked marks (name ∷ []) components behind
closed components marks name closing behind type = retyped refl (append-nil components) (join type (a_name (skip none)))

heading_picked : (heading : Heading) (behind : List Mark)
    → Picked (heading_then heading behind) (heading.name ∷ []) [] behind
heading_picked heading behind = skip (a_name (skip none))

field_picked : (text scope : List ℕ) (field : Field) (behind : List Mark)
    → Picked (field_then field behind) (field.heading.name ∷ [])
    (use_spans (uses_of_type text scope field.field_type)) behind
field_picked text scope field behind =
    skip (closed _ _ field.heading.name field.heading.closing behind (type_picked text scope field.field_type _))

map_field_picked : (text scope : List ℕ) (field : MapField) (behind : List Mark)
    → Picked (map_field_then field behind) (field.heading.name ∷ [])
    (use_spans (uses_of_type text scope field.value)) behind
map_field_picked text scope field behind =
    skip (skip (closed _ _ field.heading.name field.heading.closing behind (type_picked text scope field.value _)))

enum_picked : (text : List ℕ) (surrounding : Surrounding) (enum : Enum) (behind : List Mark)
    → Picked (enum_then enum behind) (heading_names (in_enum text surrounding enum)) [] behind
enum_picked text surrounding enum behind =
    let around = beside text surrounding kind.Enum enum.heading in
    join (heading_picked enum.heading _)
    (retyped (names_flat (λ (value : Heading). declared_by text around (ValuePart value)) enum.values)
    (none_each enum.values)
    (each_picked heading_then (λ (value : Heading). value.name ∷ []) no_spans heading_picked enum.values behind))

head_picked : (text : List ℕ) (surrounding : Surrounding) (head : Head) (behind : List Mark)
    → Picked (head_then head behind) (heading_names (in_head text surrounding head))
    (use_spans (uses_of_head text surrounding head)) behind
head_picked text surrounding (head.Message heading) behind = heading_picked heading behind
head_picked text surrounding (head.Group group) behind = skip (a_name (a_name (skip none)))
head_picked text surrounding (head.Oneof heading) behind = heading_picked heading behind
head_picked text surrounding (head.Extend type) behind = type_name_picked true text surrounding.scope type behind

leaf_picked : (text : List ℕ) (surrounding : Surrounding) (leaf : Leaf) (behind : List Mark)
    → Picked (leaf_then leaf behind) (heading_names (in_leaf text surrounding leaf))
    (use_spans (uses_in_leaf text surrounding leaf)) behind
leaf_picked text surrounding (leaf.Enum enum) behind =
    retyped refl (sym (ap use_spans (enum_uses_none text surrounding enum)))
    (enum_picked text surrounding enum behind)
leaf_picked text surrounding (leaf.Field field) behind = field_picked text surrounding.scope field behind
leaf_picked text surrounding (leaf.MapField field) behind = map_field_picked text surrounding.scope field behind

body_picked : (text : List ℕ) (surrounding : Surrounding) (body : Body) (behind : List Mark)
    → Picked (body_then body behind) (heading_names (in_body text surrounding body))
    (use_spans (uses_in_body text surrounding body)) behind
body_picked text surrounding NoMore behind = none
body_picked text surrounding (LeafThen leaf others) behind =
    retyped (names-append (in_leaf text surrounding leaf) (in_body text surrounding others))
    (components-append (uses_in_leaf text surrounding leaf) (uses_in_body text surrounding others))
    (join (leaf_picked text surrounding leaf _) (body_picked text surrounding others behind))
body_picked text surrounding (BlockThen head inner others) behind =
    let around = within text surrounding (scope_heading head) in
    retyped (ap (λ (names : List Span). heading_names (in_head text surrounding head) ++ names)
    (names-append (in_body text around inner) (in_body text surrounding others))
    ∙ names-append (in_head text surrounding head) (in_body text around inner ++ in_body text surrounding others))
    (ap (λ (spans : List Span). use_spans (uses_of_head text surrounding head) ++ spans)
    (components-append (uses_in_body text around inner) (uses_in_body text surrounding others))
    ∙ components-append (uses_of_head text surrounding head)
    (uses_in_body text around inner ++ uses_in_body text surrounding others))
    (join (head_picked text surrounding head _)
    (join (body_picked text around inner _) (body_picked text surrounding others behind)))

block_picked : (text : List ℕ) (surrounding : Surrounding) (block : BlockTree) (behind : List Mark)
    → Picked (block_then block behind) (heading_names (in_block text surrounding block))
    (use_spans (uses_in_block text surrounding block)) behind
block_picked text surrounding block behind =
    let around = within text surrounding (scope_heading block.head) in
    retyped (names-append (in_head text surrounding block.head) (in_body text around block.body))
    (components-append (uses_of_head text surrounding block.head) (uses_in_body text around block.body))
    (join (head_picked text surrounding block.head _) (body_picked text around block.body behind))

method_picked : (text : List ℕ) (surrounding : Surrounding) (method : Method) (behind : List Mark)
    → Picked (method_then method behind) (method.heading.name ∷ [])
    (use_spans (uses_of_method text surrounding method)) behind
method_picked text surrounding method behind =
    let scope = surrounding.scope in
    skip (a_name (retyped refl
    (append-nil _
    ∙ components-append (use_of false text scope method.input ∷ []) (use_of false text scope method.output ∷ []))
    (join (join (type_name_picked false text scope method.input _) (type_name_picked false text scope method.output _))
    (skip none))))

service_picked : (text : List ℕ) (surrounding : Surrounding) (service : Service) (behind : List Mark)
    → Picked (service_then service behind) (heading_names (in_service text surrounding service))
    (use_spans (uses_in_service text surrounding service)) behind
service_picked text surrounding service behind =
    let around = inside text surrounding kind.Service service.heading in
    join (heading_picked service.heading _)
    (retyped (names_flat (λ (method : Method). declared_by text around (MethodPart method)) service.methods)
    (components_flat (uses_of_method text around) service.methods)
    (each_picked method_then (λ (method : Method). method.heading.name ∷ [])
    (λ (method : Method). use_spans (uses_of_method text around method))
    (method_picked text around) service.methods behind))

item_picked : (text : List ℕ) (surrounding : Surrounding) (item : FileItem) (behind : List Mark)
    → Picked (item_then item behind) (heading_names (in_item text surrounding item))
    (use_spans (uses_in_item text surrounding item)) behind
item_picked text surrounding (item.Block block) behind = block_picked text surrounding block behind
item_picked text surrounding (item.Enum enum) behind =
    retyped refl (sym (ap use_spans (enum_uses_none text surrounding enum)))
    (enum_picked text surrounding enum behind)
item_picked text surrounding (item.Service service) behind = service_picked text surrounding service behind

-- the declared names of items and the components of their uses
pub items_picked : (text : List ℕ) (surrounding : Surrounding) (items : List FileItem) (behind : List Mark)
    → Picked (each_then item_then items behind) (heading_names (outlines_in text surrounding items))
    (use_spans (uses_in text surrounding items)) behind
items_picked text surrounding items behind =
    retyped (names_flat (in_item text surrounding) items ∙ ap heading_names (outlines_are text surrounding items))
    (components_flat (uses_in_item text surrounding) items ∙ ap use_spans (uses_are text surrounding items))
    (each_picked item_then (λ (item : FileItem). heading_names (in_item text surrounding item))
    (λ (item : FileItem). use_spans (uses_in_item text surrounding item))
    (item_picked text surrounding) items behind)

-- and with them, as names, the components of the package's name, behind some of the items and before the others
pub package_picked : (text : List ℕ) (surrounding : Surrounding) (before behind : List FileItem)
    (components : List Span)
    → Picked (each_then item_then before (names_then components (each_then item_then behind [])))
    (heading_names (outlines_in text surrounding before)
    ++ (components ++ heading_names (outlines_in text surrounding behind)))
    (use_spans (uses_in text surrounding before) ++ use_spans (uses_in text surrounding behind)) []
package_picked text surrounding before behind components =
    join (items_picked text surrounding before _)
    (join (as_names components _) (items_picked text surrounding behind []))
