-- Each option of a file has names: so a file has a list of options.
use Rattle.std.proofs.Common.{◌≡◌, ℕ, zero, suc, true, Option, List, [], ◌∷◌, ◌++◌, refl}
use Rattle.std.specs.List.{AllZip}
use Rattle.std.proofs.Common.{Bool}
use Rattle.proto_lex.specs.declared.span.Span.{Span}
use Rattle.proto_lex.specs.declared.token.TokenKind.TheVariants.{Comma}
use Rattle.proto_grammar.specs.declared.dialect.CustomOptions.{CustomOptions}
use Rattle.proto_grammar.specs.declared.dialect.Dialect.{Dialect}
use Rattle.proto_grammar.specs.declared.dialect.Syntax.{Syntax}
use Rattle.proto_grammar.specs.declared.tree.Heading.{Heading}
use Rattle.proto_grammar.specs.declared.tree.Label.{Label}
use Rattle.proto_grammar.specs.declared.tree.Field.{Field as FieldTree}
use Rattle.proto_grammar.specs.declared.tree.MapField.{MapField}
use Rattle.proto_grammar.specs.declared.tree.Enum.{Enum as EnumTree}
use Rattle.proto_grammar.specs.declared.tree.Group.{Group}
use Rattle.proto_grammar.specs.declared.tree.Item.{Item}
use Rattle.proto_grammar.specs.declared.tree.Method.{Method as MethodTree}
use Rattle.proto_grammar.specs.declared.tree.Service.{Service as ServiceTree}
use Rattle.proto_grammar.specs.declared.tree.File.{File as FileTree}
use Rattle.proto_grammar.specs.Lexeme.{Lexeme}
use Rattle.proto_grammar.specs.Tree.{BlockTree}
use Rattle.proto_grammar.specs.Terminal.{not_next}
use Rattle.proto_grammar.specs.Grammar.Repetition.{Until, Adds, Passes}
use Rattle.proto_grammar.specs.Grammar.Repetition.Until.{done, more}
use Rattle.proto_grammar.specs.Grammar.Repetition.Adds.{adds}
use Rattle.proto_grammar.specs.Grammar.Repetition.Passes.{passes}
use Rattle.proto_grammar.specs.Grammar.Options.{IsSetting, IsOption, IsOptions, IsCommaSetting}
use Rattle.proto_grammar.specs.Grammar.Options.IsOption.{option}
use Rattle.proto_grammar.specs.Grammar.Options.IsOptions.{none as no_options, some as some_options}
use Rattle.proto_grammar.specs.Grammar.Options.IsCommaSetting.{comma_setting}
use Rattle.proto_grammar.specs.Grammar.Fields.{IsNumbered, IsTyped, IsGroupHead, IsMapField}
use Rattle.proto_grammar.specs.Grammar.Fields.IsNumbered.{numbered}
use Rattle.proto_grammar.specs.Grammar.Fields.IsTyped.{typed}
use Rattle.proto_grammar.specs.Grammar.Fields.IsGroupHead.{group_head}
use Rattle.proto_grammar.specs.Grammar.Fields.IsMapField.{map_field}
use Rattle.proto_grammar.specs.Grammar.Reserved.{IsExtensions}
use Rattle.proto_grammar.specs.Grammar.Reserved.IsExtensions.{extensions}
use Rattle.proto_parse.specs.Grammar.Messages.{IsValue, IsEnumItem, IsEnum, IsBraced, IsLabelled}
use Rattle.proto_parse.specs.Grammar.Messages.{IsMember, IsOneofItem, IsOneof, IsExtendItem}
use Rattle.proto_parse.specs.Grammar.Messages.{IsExtendStatement, IsExtend, IsMessage, IsMessageItem}
use Rattle.proto_parse.specs.Grammar.Messages.{IsInside}
use Rattle.proto_parse.specs.Grammar.Messages.IsValue.{value}
use Rattle.proto_parse.specs.Grammar.Messages.IsEnumItem.{empty as enums-empty, option as enums-option}
use Rattle.proto_parse.specs.Grammar.Messages.IsEnumItem.{reserved as enums-reserved, value as enums-value}
use Rattle.proto_parse.specs.Grammar.Messages.IsEnum.{enum}
use Rattle.proto_parse.specs.Grammar.Messages.IsBraced.{braced}
use Rattle.proto_parse.specs.Grammar.Messages.IsGroup.{group}
use Rattle.proto_parse.specs.Grammar.Messages.IsLabelled.{field as labelled-field, group as labelled-group}
use Rattle.proto_parse.specs.Grammar.Messages.IsMember.{member}
use Rattle.proto_parse.specs.Grammar.Messages.IsOneofMember.{oneof_member}
use Rattle.proto_parse.specs.Grammar.Messages.IsOneofItem.{empty as oneofs-empty, option as oneofs-option}
use Rattle.proto_parse.specs.Grammar.Messages.IsOneofItem.{member as oneofs-member}
use Rattle.proto_parse.specs.Grammar.Messages.IsOneof.{oneof}
use Rattle.proto_parse.specs.Grammar.Messages.IsExtendItem.{empty as extends-empty, member as extends-member}
use Rattle.proto_parse.specs.Grammar.Messages.IsExtend.{extend}
use Rattle.proto_parse.specs.Grammar.Messages.IsExtendStatement.{kept, passed}
use Rattle.proto_parse.specs.Grammar.Messages.IsMessage.{message}
use Rattle.proto_parse.specs.Grammar.Messages.IsMessageItem.{empty as items-empty, message as items-message}
use Rattle.proto_parse.specs.Grammar.Messages.IsMessageItem.{enum as items-enum, option as items-option}
use Rattle.proto_parse.specs.Grammar.Messages.IsMessageItem.{oneof as items-oneof, map_field as items-map_field}
use Rattle.proto_parse.specs.Grammar.Messages.IsMessageItem.{reserved as items-reserved, extend as items-extend}
use Rattle.proto_parse.specs.Grammar.Messages.IsMessageItem.{extensions as items-extensions, member as items-member}
use Rattle.proto_parse.specs.Grammar.Services.{IsMethodItem, IsMethodEnd, IsMethod, IsServiceItem, IsService}
use Rattle.proto_parse.specs.Grammar.Services.IsMethodItem.{empty as method_items-empty}
use Rattle.proto_parse.specs.Grammar.Services.IsMethodItem.{option as method_items-option}
use Rattle.proto_parse.specs.Grammar.Services.IsMethodEnd.{semicolon as method_end-semicolon, body as method_end-body}
use Rattle.proto_parse.specs.Grammar.Services.IsMethod.{method}
use Rattle.proto_parse.specs.Grammar.Services.IsServiceItem.{empty as services-empty, option as services-option}
use Rattle.proto_parse.specs.Grammar.Services.IsServiceItem.{method as services-method}
use Rattle.proto_parse.specs.Grammar.Services.IsService.{service}
use Rattle.proto_parse.specs.Grammar.Files.{IsStatement, IsFileWithin}
use Rattle.proto_parse.specs.Grammar.Files.IsStatement.{empty as statements-empty, import as statements-import}
use Rattle.proto_parse.specs.Grammar.Files.IsStatement.{package_statement as statements-package_statement}
use Rattle.proto_parse.specs.Grammar.Files.IsStatement.{option as statements-option, message as statements-message}
use Rattle.proto_parse.specs.Grammar.Files.IsStatement.{enum as statements-enum, service as statements-service}
use Rattle.proto_parse.specs.Grammar.Files.IsStatement.{extend as statements-extend}
use Rattle.proto_parse.specs.Grammar.Files.IsFileWithin.{file}
use Rattle.proto_grammar.specs.Syntax.{extends}
use Rattle.proto_decl.specs.Names.{qualified}
use Rattle.proto_options.specs.declared.elements.Element.{Element}
use Rattle.proto_options.specs.declared.elements.Element.TheVariants as of_a
use Rattle.proto_options.specs.declared.options.FileOption.{FileOption}
use Rattle.proto_options.specs.Options.{IsOptionAt}
use Rattle.proto_options.specs.Elements.{Placed, placed, of_option, of_commas, of_options, of_numbered, of_typed}
use Rattle.proto_options.specs.Elements.{of_map_field, of_group_head, name_of_group, of_value, of_ranges, of_items}
use Rattle.proto_options.specs.Elements.{of_enum_item, of_enum, OfInner, of_braced, of_labelled, of_member}
use Rattle.proto_options.specs.Elements.{of_oneof_item, of_oneof, of_extend_item, of_extend, name_of_heading}
use Rattle.proto_options.specs.Elements.{of_message}
use Rattle.proto_options.specs.Elements.{of_message_item, of_inside, of_method_item, of_method_items, of_method_end}
use Rattle.proto_options.specs.Elements.{of_method, of_service_item, of_service, of_statement, of_statements}
use Rattle.proto_options.specs.Elements.{settings_of}
use Rattle.proto_options.specs.Reading.Options.{option_of}
use Rattle.proto_options.proofs.NamedLemmas.{setting_named}

-- the options at these places
pub record Listed (places : List Placed) : Type 0 where
  pub options : List FileOption
  pub each : AllZip IsOptionAt places options

none : Listed []
none = record { options = []; each = tt }

single : (scope : List ℕ) (element : Element) {custom : CustomOptions} {a b : List Lexeme} → IsSetting custom a b
    → Listed (placed scope element a)
single scope element {b = b} set =
    let its = setting_named set in
    record {
      options = option_of scope element its.0 ∷ [];
      each = (record { scope = refl; element = refl; behind = b; named = its.1 }, tt);
    }

zip_both : (xs ys : List Placed) (os us : List FileOption) → AllZip IsOptionAt xs os → AllZip IsOptionAt ys us
    → AllZip IsOptionAt (xs ++ ys) (os ++ us)
zip_both [] ys [] us p q = q
zip_both [] ys (o ∷ os) us p q = absurd p
zip_both (x ∷ xs) ys [] us p q = absurd p
zip_both (x ∷ xs) ys (o ∷ os) us p q = (p.0, zip_both xs ys os us p.1 q)

both : (xs ys : List Placed) → Listed xs → Listed ys → Listed (xs ++ ys)
both xs ys first second = record {
  options = first.options ++ second.options;
  each = zip_both xs ys first.options second.options first.each second.each;
}

-- ---- options in statements and in brackets

option_listed : (scope : List ℕ) (element : Element) {custom : CustomOptions} {a b : List Lexeme}
    (o : IsOption custom a b) → Listed (of_option scope element o)
option_listed scope element (option keyword set semicolon) = single scope element set

commas_listed : (scope : List ℕ) (element : Element) {custom : CustomOptions} {s t : Unit {0}} {a b : List Lexeme}
    (u : Until (not_next Comma) (Passes (IsCommaSetting custom)) s a t b) → Listed (of_commas scope element u)
commas_listed scope element (done ended) = none
commas_listed scope element (more further (passes (comma_setting {b = b} comma set)) others) =
    both (placed scope element b) (of_commas scope element others) (single scope element set)
    (commas_listed scope element others)

options_listed : (scope : List ℕ) (element : Element) {custom : CustomOptions} {a b : List Lexeme}
    (o : IsOptions custom a b) → Listed (of_options scope element o)
options_listed scope element (no_options not_next_one) = none
options_listed scope element (some_options {b = b} open_bracket set others close_bracket) =
    both (placed scope element b) (of_commas scope element others) (single scope element set)
    (commas_listed scope element others)

-- ---- fields, values and extension ranges

numbered_listed : (scope : List ℕ) {custom : CustomOptions} {first : Span} {a b : List Lexeme} {x : Heading}
    (n : IsNumbered custom first a x b) → Listed (of_numbered scope n)
numbered_listed scope (numbered {name = word} name equals number options closing) =
    options_listed scope (of_a.Field word) options

typed_listed : (scope : List ℕ) {custom : CustomOptions} {first : Span} {label : Option Label} {a b : List Lexeme}
    {x : FieldTree} (t : IsTyped custom first label a x b) → Listed (of_typed scope t)
typed_listed scope (typed type rest) = numbered_listed scope rest

map_field_listed : (scope : List ℕ) {custom : CustomOptions} {a b : List Lexeme} {x : MapField}
    (f : IsMapField custom a x b) → Listed (of_map_field scope f)
map_field_listed scope (map_field first less key comma type greater rest) = numbered_listed scope rest

group_head_listed : (scope : List ℕ) {custom : CustomOptions} {first : Span} {label : Option Label}
    {a b : List Lexeme} {x : Group} (g : IsGroupHead custom first label a x b) → Listed (of_group_head scope g)
group_head_listed scope (group_head {name = word} keyword name equals number options closing) =
    options_listed scope (of_a.Field word) options

value_listed : (scope : List ℕ) {custom : CustomOptions} {a b : List Lexeme} {x : Heading}
    (v : IsValue custom a x b) → Listed (of_value scope v)
value_listed scope (value name equals number options closing) = options_listed scope of_a.EnumValue options

ranges_listed : (scope : List ℕ) {custom : CustomOptions} {a b : List Lexeme} (e : IsExtensions custom a b)
    → Listed (of_ranges scope e)
ranges_listed scope (extensions keyword first others options semicolon) =
    options_listed scope of_a.ExtensionRange options

-- ---- what is between braces, item by item

items_listed : {A : Type 0} {ends : List Lexeme → Bool} {Item : List Lexeme → Option A → List Lexeme → Type 0}
    (each : (a b : List Lexeme) (x : Option A) → Item a x b → List Placed)
    → ((a b : List Lexeme) (x : Option A) (i : Item a x b) → Listed (each a b x i))
    → {front all : List A} {a b : List Lexeme} (u : Until ends (Adds Item) front a all b) → Listed (of_items each u)
items_listed each listed (done ended) = none
items_listed each listed {a = a} (more {b = b} further (adds {item = x} item) others) =
    both (each a b x item) (of_items each others) (listed a b x item) (items_listed each listed others)

enum_item_listed : (scope : List ℕ) (custom : CustomOptions) (a b : List Lexeme) (x : Option Heading)
    (i : IsEnumItem custom a x b) → Listed (of_enum_item scope custom a b x i)
enum_item_listed scope custom a b x (enums-empty semicolon) = none
enum_item_listed scope custom a b x (enums-option o) = option_listed scope of_a.Enum o
enum_item_listed scope custom a b x (enums-reserved r) = none
enum_item_listed scope custom a b x (enums-value not_empty not_option not_reserved v) = value_listed scope v

enum_listed : (scope : List ℕ) {custom : CustomOptions} {a b : List Lexeme} {x : EnumTree} (e : IsEnum custom a x b)
    → Listed (of_enum scope e)
enum_listed scope {custom = custom} (enum head items close_brace) =
    items_listed (of_enum_item scope custom) (enum_item_listed scope custom) items

braced_listed : {Is : List Lexeme → Option Item → List Lexeme → Type 0}
    (each : (a b : List Lexeme) (x : Option Item) → Is a x b → List Placed)
    → ((a b : List Lexeme) (x : Option Item) (i : Is a x b) → Listed (each a b x i))
    → {a b : List Lexeme} {x : List Item} (i : IsBraced Is a x b) → Listed (of_braced each i)
braced_listed each listed (braced items close_brace) = items_listed each listed items

-- what is in a message, of which this is what is inside
module _ (syntax : Syntax) (Inner : List Lexeme → List Item → List Lexeme → Type 0) (inner : OfInner Inner)
    (inner_listed : (outer scope : List ℕ) (a b : List Lexeme) (x : List Item) (i : Inner a x b)
    → Listed (inner outer scope a b x i)) where
  labelled_listed : (scope : List ℕ) {first : Span} {label : Option Label} {a b : List Lexeme} {x : Item}
      (l : IsLabelled syntax Inner first label a x b) → Listed (of_labelled scope syntax inner l)
  labelled_listed scope (labelled-field not_group f) = typed_listed scope f
  labelled_listed scope (labelled-group is_group (group {b = b} {c = c} {items = items} head inside)) =
      both (of_group_head scope head) (inner scope (qualified scope (name_of_group head)) b c items inside)
      (group_head_listed scope head) (inner_listed scope (qualified scope (name_of_group head)) b c items inside)

  member_listed : (scope : List ℕ) {a b : List Lexeme} {x : Item} (m : IsMember syntax Inner a x b)
      → Listed (of_member scope syntax inner m)
  member_listed scope (member label rest) = labelled_listed scope rest

  oneof_item_listed : (scope : List ℕ) (a b : List Lexeme) (x : Option Item) (i : IsOneofItem syntax Inner a x b)
      → Listed (of_oneof_item scope syntax inner a b x i)
  oneof_item_listed scope a b x (oneofs-empty semicolon) = none
  oneof_item_listed scope a b x (oneofs-option o) = option_listed scope of_a.Oneof o
  oneof_item_listed scope a b x (oneofs-member not_empty not_option (oneof_member rest)) = labelled_listed scope rest

  oneof_listed : (scope : List ℕ) {a b : List Lexeme} {x : BlockTree} (o : IsOneof syntax Inner a x b)
      → Listed (of_oneof scope syntax inner o)
  oneof_listed scope (oneof head inside) =
      braced_listed (of_oneof_item scope syntax inner) (oneof_item_listed scope) inside

  extend_item_listed : (scope : List ℕ) (a b : List Lexeme) (x : Option Item) (i : IsExtendItem syntax Inner a x b)
      → Listed (of_extend_item scope syntax inner a b x i)
  extend_item_listed scope a b x (extends-empty semicolon) = none
  extend_item_listed scope a b x (extends-member not_empty m) = member_listed scope m

  kept_listed : (scope : List ℕ) {a b : List Lexeme} {x : BlockTree} (is : extends syntax ≡ true)
      (e : IsExtend syntax Inner a x b) → Listed (of_extend scope syntax inner (kept is e))
  kept_listed scope is (extend keyword not_scalar type open_brace inside) =
      braced_listed (of_extend_item scope syntax inner) (extend_item_listed scope) inside

  message_listed : (scope : List ℕ) {a b : List Lexeme} {x : BlockTree} (m : IsMessage Inner a x b)
      → Listed (of_message scope inner m)
  message_listed scope (message {b = b} {c = c} {items = items} head inside) =
      inner_listed scope (qualified scope (name_of_heading head)) b c items inside

  message_item_listed : (extend_listed : (scope : List ℕ) (a b : List Lexeme) (x : Option BlockTree)
      (e : IsExtendStatement Inner syntax a x b) → Listed (of_extend scope syntax inner e))
      → (outer scope : List ℕ) (a b : List Lexeme) (x : Option Item) (i : IsMessageItem syntax Inner a x b)
      → Listed (of_message_item outer scope syntax inner a b x i)
  message_item_listed extend_listed outer scope a b x (items-empty semicolon) = none
  message_item_listed extend_listed outer scope a b x (items-message m) = message_listed scope m
  message_item_listed extend_listed outer scope a b x (items-enum e) = enum_listed scope e
  message_item_listed extend_listed outer scope a b x (items-option o) = option_listed outer of_a.Message o
  message_item_listed extend_listed outer scope a b x (items-oneof o) = oneof_listed scope o
  message_item_listed extend_listed outer scope a b x (items-map_field f) = map_field_listed scope f
  message_item_listed extend_listed outer scope a b x (items-reserved r) = none
  message_item_listed extend_listed outer scope a b _ (items-extend {extend = x} e) = extend_listed scope a b x e
  message_item_listed extend_listed outer scope a b x (items-extensions is_proto2 e) = ranges_listed outer e
  message_item_listed extend_listed outer scope a b x (items-member not_other m) = member_listed scope m

extend_listed : (syntax : Syntax) (Inner : List Lexeme → List Item → List Lexeme → Type 0) (inner : OfInner Inner)
    → ((outer scope : List ℕ) (a b : List Lexeme) (x : List Item) (i : Inner a x b)
    → Listed (inner outer scope a b x i))
    → (scope : List ℕ) (a b : List Lexeme) (x : Option BlockTree) (e : IsExtendStatement Inner syntax a x b)
    → Listed (of_extend scope syntax inner e)
extend_listed syntax Inner inner inner_listed scope a b _ (kept is e) =
    kept_listed syntax Inner inner inner_listed scope is e
extend_listed syntax Inner inner inner_listed scope a b _ (passed e) = none

inside_listed : (syntax : Syntax) (levels : ℕ) (outer scope : List ℕ) (a b : List Lexeme) (x : List Item)
    (i : IsInside syntax levels a x b) → Listed (of_inside syntax levels outer scope a b x i)
unfolding of_inside IsInside
inside_listed syntax zero outer scope a b x inside = absurd inside
inside_listed syntax (suc levels) outer scope a b x inside =
    braced_listed (of_message_item outer scope syntax (of_inside syntax levels))
    (message_item_listed syntax (IsInside syntax levels) (of_inside syntax levels) (inside_listed syntax levels)
    (extend_listed syntax (IsInside syntax levels) (of_inside syntax levels) (inside_listed syntax levels)) outer scope)
    inside

-- ---- services

method_item_listed : (scope : List ℕ) {custom : CustomOptions} {a b : List Lexeme} (i : IsMethodItem custom a b)
    → Listed (of_method_item scope i)
method_item_listed scope (method_items-empty semicolon) = none
method_item_listed scope (method_items-option o) = option_listed scope of_a.Method o

method_items_listed : (scope : List ℕ) {custom : CustomOptions} {ends : List Lexeme → Bool} {s t : Unit {0}}
    {a b : List Lexeme} (u : Until ends (Passes (IsMethodItem custom)) s a t b) → Listed (of_method_items scope u)
method_items_listed scope (done ended) = none
method_items_listed scope (more further (passes item) others) =
    both (of_method_item scope item) (of_method_items scope others) (method_item_listed scope item)
    (method_items_listed scope others)

method_end_listed : (scope : List ℕ) {custom : CustomOptions} {a b : List Lexeme} {x : Span}
    (e : IsMethodEnd custom a x b) → Listed (of_method_end scope e)
method_end_listed scope (method_end-semicolon s) = none
method_end_listed scope (method_end-body open_brace items close_brace) = method_items_listed scope items

method_listed : (scope : List ℕ) {custom : CustomOptions} {a b : List Lexeme} {x : MethodTree}
    (m : IsMethod custom a x b) → Listed (of_method scope m)
method_listed scope (method first name input returns output ending) = method_end_listed scope ending

service_item_listed : (outer scope : List ℕ) (custom : CustomOptions) (a b : List Lexeme) (x : Option MethodTree)
    (i : IsServiceItem custom a x b) → Listed (of_service_item outer scope custom a b x i)
service_item_listed outer scope custom a b x (services-empty semicolon) = none
service_item_listed outer scope custom a b x (services-option o) = option_listed outer of_a.Service o
service_item_listed outer scope custom a b x (services-method m) = method_listed scope m

service_listed : (scope : List ℕ) {custom : CustomOptions} {a b : List Lexeme} {x : ServiceTree}
    (s : IsService custom a x b) → Listed (of_service scope s)
service_listed scope {custom = custom} (service head items close_brace) =
    items_listed (of_service_item scope (qualified scope (name_of_heading head)) custom)
    (service_item_listed scope (qualified scope (name_of_heading head)) custom) items

-- ---- files

statement_listed : (scope : List ℕ) (levels : ℕ) (syntax : Syntax) {from to : FileTree} {a b : List Lexeme}
    (s : IsStatement levels syntax from a to b) → Listed (of_statement scope levels syntax s)
statement_listed scope levels syntax (statements-empty semicolon) = none
statement_listed scope levels syntax (statements-import i) = none
statement_listed scope levels syntax (statements-package_statement first p) = none
statement_listed scope levels syntax (statements-option o) = option_listed scope of_a.File o
statement_listed scope levels syntax (statements-message m i) =
    message_listed syntax (IsInside syntax levels) (of_inside syntax levels) (inside_listed syntax levels) scope i
statement_listed scope levels syntax (statements-enum e) = enum_listed scope e
statement_listed scope levels syntax (statements-service s) = service_listed scope s
statement_listed scope levels syntax (statements-extend e) =
    extend_listed syntax (IsInside syntax levels) (of_inside syntax levels) (inside_listed syntax levels) scope _ _ _ e

statements_listed : (scope : List ℕ) (levels : ℕ) (syntax : Syntax) {ends : List Lexeme → Bool} {from to : FileTree}
    {a b : List Lexeme} (u : Until ends (IsStatement levels syntax) from a to b)
    → Listed (of_statements scope levels syntax u)
statements_listed scope levels syntax (done ended) = none
statements_listed scope levels syntax (more further s others) =
    both (of_statement scope levels syntax s) (of_statements scope levels syntax others)
    (statement_listed scope levels syntax s) (statements_listed scope levels syntax others)

pub file_listed : (scope : List ℕ) {levels : ℕ} {dialect : Dialect} {tokens : List Lexeme} {x : FileTree}
    (d : IsFileWithin levels dialect tokens x) → Listed (settings_of scope d)
file_listed scope {levels = levels} (file {syntax = syntax} version statements) =
    statements_listed scope levels syntax statements
