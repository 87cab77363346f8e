-- The lists of a tree that are never empty.
use Rattle.std.proofs.Common.{ℕ, zero, suc, ◌≤◌, Bool, Option, Some, None, option_map, option_to_list, List, [], ◌∷◌}
use Rattle.std.proofs.Common.{◌++◌, length, length-append, All, arith}
use Rattle.std.specs.List.{flat_map}
use Rattle.std.proofs.lemmas.List.Elements.{All-append, All-nil, All-cons, All-head, All-tail}
use Rattle.proto_grammar.specs.declared.tree.Label.{Label}
use Rattle.proto_grammar.specs.declared.tree.FileItem.{FileItem}
use Rattle.proto_grammar.specs.Terminal.{is_end}
use Rattle.proto_parse.specs.Filled.{HasSome, FilledTypeName, FilledPart, FilledPackage, FilledImport, FilledFile}
use Rattle.proto_parse.specs.Parts.{Part, of_enum, of_leaf, of_body, of_block, of_item, anywhere, one_part}
use Rattle.proto_parse.specs.Parts.{parts_in, named_by, extended_by}
use Rattle.proto_parse.specs.Parts.Part.{BlockPart, EnumPart, ValuePart, FieldPart, MapFieldPart, ServicePart}
use Rattle.proto_parse.specs.Parts.Part.{MethodPart}
use Rattle.proto_lex.specs.declared.span.Span.{Span}
use Rattle.proto_grammar.specs.declared.dialect.CustomOptions.{CustomOptions}
use Rattle.proto_grammar.specs.declared.dialect.Dialect.{Dialect}
use Rattle.proto_grammar.specs.declared.dialect.Syntax.{Syntax}
use Rattle.proto_grammar.specs.declared.tree.TypeName.{TypeName}
use Rattle.proto_grammar.specs.declared.tree.FieldType.{FieldType}
use Rattle.proto_grammar.specs.declared.tree.Field.{Field}
use Rattle.proto_grammar.specs.declared.tree.MapField.{MapField}
use Rattle.proto_grammar.specs.declared.tree.Heading.{Heading}
use Rattle.proto_grammar.specs.declared.tree.Enum.{Enum}
use Rattle.proto_grammar.specs.declared.tree.Head.{Head}
use Rattle.proto_grammar.specs.declared.tree.Head.TheVariants as head
use Rattle.proto_grammar.specs.declared.tree.Leaf.{Leaf}
use Rattle.proto_grammar.specs.declared.tree.Method.{Method}
use Rattle.proto_grammar.specs.declared.tree.Service.{Service}
use Rattle.proto_grammar.specs.declared.tree.Item.{Item}
use Rattle.proto_grammar.specs.declared.tree.Item.TheVariants as tree
use Rattle.proto_grammar.specs.declared.tree.FileItem.TheVariants as item
use Rattle.proto_grammar.specs.declared.tree.Import.{Import}
use Rattle.proto_grammar.specs.declared.tree.File.{File}
use Rattle.proto_grammar.specs.Lexeme.{Lexeme}
use Rattle.proto_steps.specs.Limits.{max_message_depth}
use Rattle.proto_grammar.specs.Tree.{Body, BlockTree}
use Rattle.proto_grammar.specs.Items.{body_of}
use Rattle.proto_grammar.specs.Grammar.Repetition.{Until, Adds}
use Rattle.proto_grammar.specs.Grammar.Repetition.Until.{done, more}
use Rattle.proto_grammar.specs.Grammar.Repetition.Adds.{adds}
use Rattle.proto_grammar.specs.Grammar.Names.{IsName, IsTypeName, IsType}
use Rattle.proto_grammar.specs.Grammar.Names.IsName.{name}
use Rattle.proto_grammar.specs.Grammar.Names.IsTypeName.{rooted, plain as plain_name}
use Rattle.proto_grammar.specs.Grammar.Names.IsType.{scalar, named}
use Rattle.proto_grammar.specs.Grammar.Fields.{IsTyped, IsMapField}
use Rattle.proto_grammar.specs.Grammar.Fields.IsTyped.{typed}
use Rattle.proto_grammar.specs.Grammar.Fields.IsMapField.{map_field}
use Rattle.proto_parse.specs.Grammar.Messages.{IsBraced, IsLabelled, IsMember, IsOneofItem}
use Rattle.proto_parse.specs.Grammar.Messages.{IsExtendItem, IsExtendStatement, IsMessage, IsMessageItem}
use Rattle.proto_parse.specs.Grammar.Messages.{IsInside}
use Rattle.proto_parse.specs.Grammar.Messages.IsBraced.{braced}
use Rattle.proto_parse.specs.Grammar.Messages.IsGroup.{group}
use Rattle.proto_parse.specs.Grammar.Messages.IsLabelled.{field as labelled-field, group as labelled-group}
use Rattle.proto_parse.specs.Grammar.Messages.IsMember.{member}
use Rattle.proto_parse.specs.Grammar.Messages.IsOneofMember.{oneof_member}
use Rattle.proto_parse.specs.Grammar.Messages.IsOneofItem.{empty as oneofs-empty, option as oneofs-option}
use Rattle.proto_parse.specs.Grammar.Messages.IsOneofItem.{member as oneofs-member}
use Rattle.proto_parse.specs.Grammar.Messages.IsOneof.{oneof}
use Rattle.proto_parse.specs.Grammar.Messages.IsExtendItem.{empty as extends-empty, member as extends-member}
use Rattle.proto_parse.specs.Grammar.Messages.IsExtend.{extend}
use Rattle.proto_parse.specs.Grammar.Messages.IsExtendStatement.{kept, passed}
use Rattle.proto_parse.specs.Grammar.Messages.IsMessage.{message}
use Rattle.proto_parse.specs.Grammar.Messages.IsMessageItem.{empty as items-empty, message as items-message}
use Rattle.proto_parse.specs.Grammar.Messages.IsMessageItem.{enum as items-enum, option as items-option}
use Rattle.proto_parse.specs.Grammar.Messages.IsMessageItem.{oneof as items-oneof, map_field as items-map_field}
use Rattle.proto_parse.specs.Grammar.Messages.IsMessageItem.{reserved as items-reserved, extend as items-extend}
use Rattle.proto_parse.specs.Grammar.Messages.IsMessageItem.{extensions as items-extensions, member as items-member}
use Rattle.proto_parse.specs.Grammar.Services.{IsMethodType, IsServiceItem, IsService}
use Rattle.proto_parse.specs.Grammar.Services.IsMethodType.{method_type}
use Rattle.proto_parse.specs.Grammar.Services.IsMethod.{method}
use Rattle.proto_parse.specs.Grammar.Services.IsServiceItem.{method as services-method}
use Rattle.proto_parse.specs.Grammar.Services.IsService.{service}
use Rattle.proto_parse.specs.Grammar.Files.{empty_file, IsImport, IsPackage, IsStatement, IsFile}
use Rattle.proto_parse.specs.Grammar.Files.IsImport.{import}
use Rattle.proto_parse.specs.Grammar.Files.IsPackage.{package_statement}
use Rattle.proto_parse.specs.Grammar.Files.IsStatement.{empty as statements-empty, import as statements-import}
use Rattle.proto_parse.specs.Grammar.Files.IsStatement.{package_statement as statements-package_statement}
use Rattle.proto_parse.specs.Grammar.Files.IsStatement.{option as statements-option, message as statements-message}
use Rattle.proto_parse.specs.Grammar.Files.IsStatement.{enum as statements-enum, service as statements-service}
use Rattle.proto_parse.specs.Grammar.Files.IsStatement.{extend as statements-extend}
use Rattle.proto_parse.specs.Grammar.Files.IsFileWithin.{file}

-- of each item that a chain of steps keeps
until_all : {A : Type 0}
    (P : A → Type 0) {ends : List Lexeme → Bool} {Item : List Lexeme → Option A → List Lexeme → Type 0}
    → ((a b : List Lexeme) (x : A) → Item a (Some x) b → P x)
    → (front all : List A) (a b : List Lexeme) → Until ends (Adds Item) front a all b → All P front → All P all
until_all P each front all a b (done e) so_far = so_far
until_all P each front all a b (more {b = c} further (adds {item = Some x} i) behind) so_far =
    until_all P each (front ++ x ∷ []) all c b behind
    (All-append P front (x ∷ []) so_far (All-cons P x [] (each a c x i) (All-nil P)))
until_all P each front all a b (more {b = c} further (adds {item = None} i) behind) so_far =
    until_all P each (front ++ []) all c b behind (All-append P front [] so_far (All-nil P))

-- a list doesn't get shorter
until_grows : {A : Type 0} {ends : List Lexeme → Bool} {Item : List Lexeme → Option A → List Lexeme → Type 0}
    → (front all : List A) (a b : List Lexeme) → Until ends (Adds Item) front a all b → length front ≤ length all
until_grows front all a b (done e) = omega arith
until_grows front all a b (more {b = c} further (adds {item = x} i) behind) =
    omega (arith, length-append front (option_to_list x), until_grows (front ++ option_to_list x) all c b behind)

name_filled : {a b : List Lexeme} {x : List Span} → IsName a x b → HasSome x
name_filled {b = b} {x = x} (name {b = c} {component = component} t u) = let grows : 1 ≤ length x =
    until_grows (component ∷ []) x c b u in omega (arith, grows)

type_name_filled : {a b : List Lexeme} {x : TypeName} → IsTypeName a x b → FilledTypeName x
type_name_filled (rooted d n) = name_filled n
type_name_filled (plain_name n) = name_filled n

-- a part that names one type, and one that names none
one_type : (type : TypeName) → FilledTypeName type → All FilledTypeName (type ∷ [])
one_type type some = All-cons FilledTypeName type [] some (All-nil FilledTypeName)

no_type : All FilledTypeName []
no_type = All-nil FilledTypeName

type_filled : {a b : List Lexeme} {x : FieldType} → IsType a x b → All FilledTypeName (named_by x)
type_filled (scalar is w) = no_type
type_filled (named {name = x} not n) = one_type x (type_name_filled n)

typed_filled : {custom : CustomOptions} {first : Span} {label : Option Label} {a b : List Lexeme} {x : Field}
    → IsTyped custom first label a x b → FilledPart (FieldPart x)
typed_filled (typed y n) = type_filled y

map_field_filled : {custom : CustomOptions} {a b : List Lexeme} {x : MapField} → IsMapField custom a x b
    → FilledPart (MapFieldPart x)
map_field_filled (map_field f l k c v g h) = type_filled v

-- all parts of what is in a tree
abbrev AllFilled : List Part → Type 0
AllFilled parts = All FilledPart parts

abbrev FilledLeaf : Leaf → Type 0
FilledLeaf leaf = AllFilled (of_leaf anywhere one_part tt leaf)

abbrev FilledBlock : BlockTree → Type 0
FilledBlock block = AllFilled (of_block anywhere one_part tt block)

abbrev FilledBody : Body → Type 0
FilledBody body = AllFilled (of_body anywhere one_part tt body)

abbrev FilledItem : FileItem → Type 0
FilledItem item = AllFilled (of_item anywhere one_part tt item)

-- a part, and those behind it
and_parts : (part : Part) (parts : List Part) → FilledPart part → AllFilled parts → AllFilled (part ∷ parts)
and_parts part parts some all = All-cons FilledPart part parts some all

alone : (part : Part) → FilledPart part → AllFilled (part ∷ [])
alone part some = and_parts part [] some (All-nil FilledPart)

-- the parts of values, and those of methods
abbrev value_parts : List Heading → List Part
value_parts values = flat_map (λ (v : Heading). ValuePart v ∷ []) values

abbrev method_parts : List Method → List Part
method_parts methods = flat_map (λ (m : Method). MethodPart m ∷ []) methods

values_filled : (values : List Heading) → AllFilled (value_parts values)
values_filled [] = All-nil FilledPart
values_filled (v ∷ values) = and_parts (ValuePart v) (value_parts values) no_type (values_filled values)

enum_filled : (enum : Enum) → AllFilled (of_enum anywhere one_part tt enum)
enum_filled enum = and_parts (EnumPart enum.heading) (value_parts enum.values) no_type (values_filled enum.values)

abbrev FilledMethod : Method → Type 0
FilledMethod m = FilledPart (MethodPart m)

methods_filled : (methods : List Method) → All FilledMethod methods → AllFilled (method_parts methods)
methods_filled [] all = All-nil FilledPart
methods_filled (m ∷ methods) all =
    and_parts (MethodPart m) (method_parts methods) (All-head FilledMethod m methods all)
    (methods_filled methods (All-tail FilledMethod m methods all))

-- of one item of a block
abbrev FilledBlockItem : Item → Type 0
FilledBlockItem (tree.Block b) = FilledBlock b
FilledBlockItem (tree.Leaf leaf) = FilledLeaf leaf

body_filled : (items : List Item) → All FilledBlockItem items → FilledBody (body_of items)
body_filled [] all = All-nil FilledPart
body_filled (tree.Block b ∷ items) all =
    All-append FilledPart (of_block anywhere one_part tt b) (of_body anywhere one_part tt (body_of items))
    (All-head FilledBlockItem (tree.Block b) items all)
    (body_filled items (All-tail FilledBlockItem (tree.Block b) items all))
body_filled (tree.Leaf leaf ∷ items) all =
    All-append FilledPart (of_leaf anywhere one_part tt leaf) (of_body anywhere one_part tt (body_of items))
    (All-head FilledBlockItem (tree.Leaf leaf) items all)
    (body_filled items (All-tail FilledBlockItem (tree.Leaf leaf) items all))

block_filled : (head : Head) (items : List Item) → All FilledTypeName (extended_by head) → FilledBody (body_of items)
    → FilledBlock (record { head = head; body = body_of items })
block_filled head items some all = and_parts (BlockPart head) (of_body anywhere one_part tt (body_of items)) some all

-- what is read is filled
abbrev Fills : {A : Type 0} → (A → Type 0) → (List Lexeme → A → List Lexeme → Type 0) → Type 0
Fills {A} Filled Is = (a b : List Lexeme) (x : A) → Is a x b → Filled x

-- what is inside
abbrev FilledItems : List Item → Type 0
FilledItems items = FilledBody (body_of items)

-- one item, if it is kept
abbrev FilledOption : Option Item → Type 0
FilledOption None = Unit {0}
FilledOption (Some x) = FilledBlockItem x

braced_filled : (Is : List Lexeme → Option Item → List Lexeme → Type 0) → Fills FilledOption Is
    → Fills FilledItems (IsBraced Is)
braced_filled Is fills a c x (braced {b = b} u e) =
    body_filled x (until_all FilledBlockItem (λ a b y i. fills a b (Some y) i) [] x a b u (All-nil FilledBlockItem))

labelled_filled : (syntax : Syntax) (Inner : List Lexeme → List Item → List Lexeme → Type 0) → Fills FilledItems Inner
    → (first : Span) (label : Option Label) → Fills FilledBlockItem (IsLabelled syntax Inner first label)
labelled_filled syntax Inner fills first label a b x (labelled-field {field = y} is f) =
    alone (FieldPart y) (typed_filled f)
labelled_filled syntax Inner fills first label a c x
    (labelled-group is (group {b = b} {group = y} {items = items} g i)) =
    block_filled (head.Group y) items no_type (fills b c items i)

member_filled : (syntax : Syntax) (Inner : List Lexeme → List Item → List Lexeme → Type 0) → Fills FilledItems Inner
    → Fills FilledBlockItem (IsMember syntax Inner)
member_filled syntax Inner fills a c x (member {t = t} {b = b} {label = label} l i) =
    labelled_filled syntax Inner fills t.span label b c x i

oneof_item_filled : (syntax : Syntax) (Inner : List Lexeme → List Item → List Lexeme → Type 0) → Fills FilledItems Inner
    → Fills FilledOption (IsOneofItem syntax Inner)
oneof_item_filled syntax Inner fills a b x (oneofs-empty s) = tt
oneof_item_filled syntax Inner fills a b x (oneofs-option o) = tt
oneof_item_filled syntax Inner fills a b x (oneofs-member {item = y} p q (oneof_member {t = t} {rest = rest} i)) =
    labelled_filled syntax Inner fills t.span None (t ∷ rest) b y i

extend_item_filled : (syntax : Syntax) (Inner : List Lexeme → List Item → List Lexeme → Type 0)
    → Fills FilledItems Inner
    → Fills FilledOption (IsExtendItem syntax Inner)
extend_item_filled syntax Inner fills a b x (extends-empty s) = tt
extend_item_filled syntax Inner fills a b x (extends-member {item = y} p m) = member_filled syntax Inner fills a b y m

-- an extend, if it is kept
abbrev FilledExtend : Option BlockTree → Type 0
FilledExtend None = Unit {0}
FilledExtend (Some x) = FilledBlock x

extend_statement_filled : (syntax : Syntax) (Inner : List Lexeme → List Item → List Lexeme → Type 0)
    → Fills FilledItems Inner → Fills FilledExtend (IsExtendStatement Inner syntax)
extend_statement_filled syntax Inner fills a e x
    (kept is (extend {d = d} {type = y} {items = items} k not n o i)) =
    block_filled (head.Extend y) items (one_type y (type_name_filled n))
    (braced_filled (IsExtendItem syntax Inner) (extend_item_filled syntax Inner fills) d e items i)
extend_statement_filled syntax Inner fills a b x (passed e) = tt

message_filled : (Inner : List Lexeme → List Item → List Lexeme → Type 0) → Fills FilledItems Inner
    → Fills FilledBlock (IsMessage Inner)
message_filled Inner fills a c x (message {b = b} {heading = y} {items = items} h i) =
    block_filled (head.Message y) items no_type (fills b c items i)

extended_item_filled : (x : Option BlockTree) → FilledExtend x → FilledOption (option_map tree.Block x)
extended_item_filled None filled = tt
extended_item_filled (Some x) filled = filled

message_item_filled : (syntax : Syntax) (Inner : List Lexeme → List Item → List Lexeme → Type 0)
    → Fills FilledItems Inner → Fills FilledOption (IsMessageItem syntax Inner)
message_item_filled syntax Inner fills a b x (items-empty s) = tt
message_item_filled syntax Inner fills a b x (items-message {message = y} i) = message_filled Inner fills a b y i
message_item_filled syntax Inner fills a b x (items-enum {enum = y} e) = enum_filled y
message_item_filled syntax Inner fills a b x (items-option o) = tt
message_item_filled syntax Inner fills a c x (items-oneof (oneof {b = b} {heading = y} {items = items} h i)) =
    block_filled (head.Oneof y) items no_type
    (braced_filled (IsOneofItem syntax Inner) (oneof_item_filled syntax Inner fills) b c items i)
message_item_filled syntax Inner fills a b x (items-map_field {field = y} f) =
    alone (MapFieldPart y) (map_field_filled f)
message_item_filled syntax Inner fills a b x (items-reserved r) = tt
message_item_filled syntax Inner fills a b x (items-extend {extend = y} e) =
    extended_item_filled y (extend_statement_filled syntax Inner fills a b y e)
message_item_filled syntax Inner fills a b x (items-extensions proto2 r) = tt
message_item_filled syntax Inner fills a b x (items-member {item = y} is m) = member_filled syntax Inner fills a b y m

inside_filled : (syntax : Syntax) (levels : ℕ) → Fills FilledItems (IsInside syntax levels)
unfolding IsInside
inside_filled syntax zero a b x i = absurd i
inside_filled syntax (suc levels) a b x i =
    braced_filled (IsMessageItem syntax (IsInside syntax levels))
    (message_item_filled syntax (IsInside syntax levels) (inside_filled syntax levels)) a b x i

method_type_filled : {a b : List Lexeme} {x : TypeName} → IsMethodType a x b → FilledTypeName x
method_type_filled (method_type o s none_next n c) = type_name_filled n

service_item_filled : (custom : CustomOptions) (a b : List Lexeme) (x : Method) → IsServiceItem custom a (Some x) b
    → FilledMethod x
service_item_filled custom a b x (services-method (method f n i r o c)) =
    All-cons FilledTypeName x.input (x.output ∷ []) (method_type_filled i) (one_type x.output (method_type_filled o))

service_filled : {custom : CustomOptions} {a b : List Lexeme} {x : Service} → IsService custom a x b
    → FilledItem (item.Service x)
service_filled {custom} (service {b = c} {c = d} {heading = y} {methods = methods} h u e) =
    and_parts (ServicePart y) (method_parts methods) no_type
    (methods_filled methods
    (until_all FilledMethod (service_item_filled custom) [] methods c d u (All-nil FilledMethod)))

import_filled : {a b : List Lexeme} {x : Import} → IsImport a x b → FilledImport x
import_filled (import {d = d} {e = e} {literal = literal} {literals = literals} k i l u s) =
    let grows : 1 ≤ length literals = until_grows (literal ∷ []) literals d e u in omega (arith, grows)

package_filled : {a b : List Lexeme} {x : List Span} → IsPackage a x b → HasSome x
package_filled (package_statement k n s) = name_filled n

with_item : (items : List FileItem) (x : FileItem) → All FilledItem items → FilledItem x
    → All FilledItem (items ++ x ∷ [])
with_item items x all here =
    All-append FilledItem items (x ∷ []) all (All-cons FilledItem x [] here (All-nil FilledItem))

with_import : (imports : List Import) (x : Import) → All FilledImport imports → FilledImport x
    → All FilledImport (imports ++ x ∷ [])
with_import imports x all here =
    All-append FilledImport imports (x ∷ []) all (All-cons FilledImport x [] here (All-nil FilledImport))

with_extend : (items : List FileItem) (x : Option BlockTree) → All FilledItem items → FilledExtend x
    → All FilledItem (items ++ option_to_list (option_map item.Block x))
with_extend items None all here = All-append FilledItem items [] all (All-nil FilledItem)
with_extend items (Some x) all here = with_item items (item.Block x) all here

-- of a file so far
record FilledSoFar (f : File) : Type 0 where
  package_name : FilledPackage f.package_name
  imports : All FilledImport f.imports
  items : All FilledItem f.items

statement_filled : (syntax : Syntax) (f g : File) (a b : List Lexeme) → IsStatement max_message_depth syntax f a g b
    → FilledSoFar f
    → FilledSoFar g
statement_filled syntax f g a b (statements-empty s) filled = filled
statement_filled syntax f g a b (statements-import {import = x} i) filled =
    record {
      package_name = filled.package_name;
      imports = with_import f.imports x filled.imports (import_filled i);
      items = filled.items;
    }
statement_filled syntax f g a b (statements-package_statement none_yet p) filled =
    record { package_name = package_filled p; imports = filled.imports; items = filled.items }
statement_filled syntax f g a b (statements-option o) filled = filled
statement_filled syntax f g a b (statements-message m i) filled =
    record {
      package_name = filled.package_name;
      imports = filled.imports;
      items = with_item f.items (item.Block m) filled.items
          (message_filled (IsInside syntax max_message_depth) (inside_filled syntax max_message_depth) a b m i);
    }
statement_filled syntax f g a b (statements-enum {enum = e} i) filled =
    record {
      package_name = filled.package_name;
      imports = filled.imports;
      items = with_item f.items (item.Enum e) filled.items (enum_filled e);
    }
statement_filled syntax f g a b (statements-service {service = s} i) filled =
    record {
      package_name = filled.package_name;
      imports = filled.imports;
      items = with_item f.items (item.Service s) filled.items (service_filled i);
    }
statement_filled syntax f g a b (statements-extend {extend = x} e) filled =
    record {
      package_name = filled.package_name;
      imports = filled.imports;
      items = with_extend f.items x filled.items
          (extend_statement_filled syntax (IsInside syntax max_message_depth) (inside_filled syntax max_message_depth)
          a b x e);
    }

statements_filled : (syntax : Syntax) (f g : File) (a b : List Lexeme)
    → Until is_end (IsStatement max_message_depth syntax) f a g b → FilledSoFar f → FilledSoFar g
statements_filled syntax f g a b (done e) filled = filled
statements_filled syntax f g a b (more {t = t} {b = c} further first behind) filled =
    statements_filled syntax t g c b behind (statement_filled syntax f t a c first filled)

items_filled : (items : List FileItem) → All FilledItem items → AllFilled (parts_in items)
items_filled [] all = All-nil FilledPart
items_filled (x ∷ items) all =
    All-append FilledPart (of_item anywhere one_part tt x) (parts_in items) (All-head FilledItem x items all)
    (items_filled items (All-tail FilledItem x items all))

pub file_filled : {dialect : Dialect} {a : List Lexeme} (f : File) → IsFile dialect a f → FilledFile f
file_filled f (file {b = b} {c = c} {syntax = syntax} s u) =
    let filled = statements_filled syntax empty_file f b c u
    (record { package_name = tt; imports = All-nil FilledImport; items = All-nil FilledItem }) in
    record {
      package_name = filled.package_name;
      imports = filled.imports;
      parts = items_filled f.items filled.items;
    }
