-- The options of a file: those in the derivation of its tokens, in order of place, each with what it is an option of
-- and the scope from which its name is looked up (proto3 and proto2 specifications, "Option"; protoc's descriptor
-- builder, for the scopes). The scope is what surrounds the element: so a message's own scope is none of its options',
-- but of its fields'.
use Rattle.std.specs.Prelude.{ℕ, zero, suc, Bool, Option, List, [], ◌∷◌, ◌++◌}
use Rattle.proto_lex.specs.declared.span.Span.{Span}
use Rattle.proto_lex.specs.declared.token.TokenKind.TheVariants.{Comma}
use Rattle.proto_grammar.specs.declared.dialect.CustomOptions.{CustomOptions}
use Rattle.proto_grammar.specs.declared.dialect.Dialect.{Dialect}
use Rattle.proto_grammar.specs.declared.dialect.Syntax.{Syntax}
use Rattle.proto_grammar.specs.declared.tree.Heading.{Heading}
use Rattle.proto_grammar.specs.declared.tree.Label.{Label}
use Rattle.proto_grammar.specs.declared.tree.Field.{Field as FieldTree}
use Rattle.proto_grammar.specs.declared.tree.MapField.{MapField}
use Rattle.proto_grammar.specs.declared.tree.Enum.{Enum as EnumTree}
use Rattle.proto_grammar.specs.declared.tree.Group.{Group}
use Rattle.proto_grammar.specs.declared.tree.Item.{Item}
use Rattle.proto_grammar.specs.declared.tree.Method.{Method as MethodTree}
use Rattle.proto_grammar.specs.declared.tree.Service.{Service as ServiceTree}
use Rattle.proto_grammar.specs.declared.tree.File.{File as FileTree}
use Rattle.proto_grammar.specs.Lexeme.{Lexeme}
use Rattle.proto_grammar.specs.Tree.{BlockTree}
use Rattle.proto_grammar.specs.Terminal.{not_next}
use Rattle.proto_grammar.specs.Grammar.Repetition.{One, Until, Adds, Passes}
use Rattle.proto_grammar.specs.Grammar.Repetition.One.{one}
use Rattle.proto_grammar.specs.Grammar.Repetition.Until.{done, more}
use Rattle.proto_grammar.specs.Grammar.Repetition.Adds.{adds}
use Rattle.proto_grammar.specs.Grammar.Repetition.Passes.{passes}
use Rattle.proto_grammar.specs.Grammar.Options.{IsOption, IsOptions, IsCommaSetting}
use Rattle.proto_grammar.specs.Grammar.Options.IsOption.{option}
use Rattle.proto_grammar.specs.Grammar.Options.IsOptions.{none as no_options, some as some_options}
use Rattle.proto_grammar.specs.Grammar.Options.IsCommaSetting.{comma_setting}
use Rattle.proto_grammar.specs.Grammar.Fields.{IsNumbered, IsTyped, IsGroupHead, IsMapField}
use Rattle.proto_grammar.specs.Grammar.Fields.IsNumbered.{numbered}
use Rattle.proto_grammar.specs.Grammar.Fields.IsTyped.{typed}
use Rattle.proto_grammar.specs.Grammar.Fields.IsGroupHead.{group_head}
use Rattle.proto_grammar.specs.Grammar.Fields.IsMapField.{map_field}
use Rattle.proto_grammar.specs.Grammar.Reserved.{IsExtensions}
use Rattle.proto_grammar.specs.Grammar.Reserved.IsExtensions.{extensions}
use Rattle.proto_parse.specs.Grammar.Messages.{IsHeading, IsValue, IsEnumItem, IsEnum, IsBraced, IsLabelled}
use Rattle.proto_parse.specs.Grammar.Messages.{IsMember, IsOneofItem, IsOneof, IsExtendItem}
use Rattle.proto_parse.specs.Grammar.Messages.{IsExtendStatement, IsMessage, IsMessageItem, IsInside}
use Rattle.proto_parse.specs.Grammar.Messages.IsHeading.{heading}
use Rattle.proto_parse.specs.Grammar.Messages.IsValue.{value}
use Rattle.proto_parse.specs.Grammar.Messages.IsEnumItem.{empty as enums-empty, option as enums-option}
use Rattle.proto_parse.specs.Grammar.Messages.IsEnumItem.{reserved as enums-reserved, value as enums-value}
use Rattle.proto_parse.specs.Grammar.Messages.IsEnum.{enum}
use Rattle.proto_parse.specs.Grammar.Messages.IsBraced.{braced}
use Rattle.proto_parse.specs.Grammar.Messages.IsGroup.{group}
use Rattle.proto_parse.specs.Grammar.Messages.IsLabelled.{field as labelled-field, group as labelled-group}
use Rattle.proto_parse.specs.Grammar.Messages.IsMember.{member}
use Rattle.proto_parse.specs.Grammar.Messages.IsOneofMember.{oneof_member}
use Rattle.proto_parse.specs.Grammar.Messages.IsOneofItem.{empty as oneofs-empty, option as oneofs-option}
use Rattle.proto_parse.specs.Grammar.Messages.IsOneofItem.{member as oneofs-member}
use Rattle.proto_parse.specs.Grammar.Messages.IsOneof.{oneof}
use Rattle.proto_parse.specs.Grammar.Messages.IsExtendItem.{empty as extends-empty, member as extends-member}
use Rattle.proto_parse.specs.Grammar.Messages.IsExtend.{extend}
use Rattle.proto_parse.specs.Grammar.Messages.IsExtendStatement.{kept, passed}
use Rattle.proto_parse.specs.Grammar.Messages.IsMessage.{message}
use Rattle.proto_parse.specs.Grammar.Messages.IsMessageItem.{empty as items-empty, message as items-message}
use Rattle.proto_parse.specs.Grammar.Messages.IsMessageItem.{enum as items-enum, option as items-option}
use Rattle.proto_parse.specs.Grammar.Messages.IsMessageItem.{oneof as items-oneof, map_field as items-map_field}
use Rattle.proto_parse.specs.Grammar.Messages.IsMessageItem.{reserved as items-reserved, extend as items-extend}
use Rattle.proto_parse.specs.Grammar.Messages.IsMessageItem.{extensions as items-extensions, member as items-member}
use Rattle.proto_parse.specs.Grammar.Services.{IsMethodItem, IsMethodEnd, IsMethod, IsServiceItem, IsService}
use Rattle.proto_parse.specs.Grammar.Services.IsMethodItem.{empty as method_items-empty}
use Rattle.proto_parse.specs.Grammar.Services.IsMethodItem.{option as method_items-option}
use Rattle.proto_parse.specs.Grammar.Services.IsMethodEnd.{semicolon as method_end-semicolon, body as method_end-body}
use Rattle.proto_parse.specs.Grammar.Services.IsMethod.{method}
use Rattle.proto_parse.specs.Grammar.Services.IsServiceItem.{empty as services-empty, option as services-option}
use Rattle.proto_parse.specs.Grammar.Services.IsServiceItem.{method as services-method}
use Rattle.proto_parse.specs.Grammar.Services.IsService.{service}
use Rattle.proto_parse.specs.Grammar.Files.{IsStatement, IsFileWithin}
use Rattle.proto_parse.specs.Grammar.Files.IsStatement.{empty as statements-empty, import as statements-import}
use Rattle.proto_parse.specs.Grammar.Files.IsStatement.{package_statement as statements-package_statement}
use Rattle.proto_parse.specs.Grammar.Files.IsStatement.{option as statements-option, message as statements-message}
use Rattle.proto_parse.specs.Grammar.Files.IsStatement.{enum as statements-enum, service as statements-service}
use Rattle.proto_parse.specs.Grammar.Files.IsStatement.{extend as statements-extend}
use Rattle.proto_parse.specs.Grammar.Files.IsFileWithin.{file}
use Rattle.proto_decl.specs.Names.{qualified}
use Rattle.proto_options.specs.declared.elements.Element.{Element}
use Rattle.proto_options.specs.declared.elements.Element.TheVariants as of_a

-- An option, by the tokens from its name on; what it is an option of; and the full name of the scope around that.
pub record Placed : Type 0 where
  pub scope : List ℕ
  pub element : Element
  pub tokens : List Lexeme

abbrev pub placed : (scope : List ℕ) → Element → List Lexeme → List Placed
placed scope element tokens = record { scope = scope; element = element; tokens = tokens } ∷ []

-- how the token is spelled
abbrev pub spelled : {test : Lexeme → Bool} {a b : List Lexeme} {span : Span} → One test a span b → List ℕ
spelled (one {t = t} passes_it) = t.spelling

-- ---- options in statements and in brackets

abbrev pub of_option : (scope : List ℕ) → Element → {custom : CustomOptions} {a b : List Lexeme} → IsOption custom a b
    → List Placed
of_option scope element (option {b = b} keyword set semicolon) = placed scope element b

abbrev pub of_commas : (scope : List ℕ) → Element → {custom : CustomOptions} {s t : Unit {0}} {a b : List Lexeme}
    → Until (not_next Comma) (Passes (IsCommaSetting custom)) s a t b → List Placed
of_commas scope element (done ended) = []
of_commas scope element (more further (passes (comma_setting {b = b} comma set)) others) =
    placed scope element b ++ of_commas scope element others

abbrev pub of_options : (scope : List ℕ) → Element → {custom : CustomOptions} {a b : List Lexeme} → IsOptions custom a b
    → List Placed
of_options scope element (no_options not_next_one) = []
of_options scope element (some_options {b = b} open_bracket set others close_bracket) =
    placed scope element b ++ of_commas scope element others

-- ---- fields, values and extension ranges

abbrev pub of_numbered : (scope : List ℕ) → {custom : CustomOptions} {first : Span} {a b : List Lexeme} {x : Heading}
    → IsNumbered custom first a x b → List Placed
of_numbered scope (numbered {name = word} name equals number options closing) =
    of_options scope (of_a.Field word) options

abbrev pub of_typed : (scope : List ℕ) → {custom : CustomOptions} {first : Span} {label : Option Label}
    {a b : List Lexeme} {x : FieldTree} → IsTyped custom first label a x b → List Placed
of_typed scope (typed type rest) = of_numbered scope rest

abbrev pub of_map_field : (scope : List ℕ) → {custom : CustomOptions} {a b : List Lexeme} {x : MapField}
    → IsMapField custom a x b → List Placed
of_map_field scope (map_field first less key comma type greater rest) = of_numbered scope rest

abbrev pub of_group_head : (scope : List ℕ) → {custom : CustomOptions} {first : Span} {label : Option Label}
    {a b : List Lexeme} {x : Group} → IsGroupHead custom first label a x b → List Placed
of_group_head scope (group_head {name = word} keyword name equals number options closing) =
    of_options scope (of_a.Field word) options

abbrev pub name_of_group : {custom : CustomOptions} {first : Span} {label : Option Label} {a b : List Lexeme}
    {x : Group} → IsGroupHead custom first label a x b → List ℕ
name_of_group (group_head keyword name equals number options closing) = spelled name

abbrev pub of_value : (scope : List ℕ) → {custom : CustomOptions} {a b : List Lexeme} {x : Heading}
    → IsValue custom a x b → List Placed
of_value scope (value name equals number options closing) = of_options scope of_a.EnumValue options

-- the scope is that around the message, as of the message's own options
abbrev pub of_ranges : (scope : List ℕ) → {custom : CustomOptions} {a b : List Lexeme} → IsExtensions custom a b
    → List Placed
of_ranges scope (extensions keyword first others options semicolon) = of_options scope of_a.ExtensionRange options

-- ---- what is between braces, item by item

abbrev pub of_items : {A : Type 0} {ends : List Lexeme → Bool} {Item : List Lexeme → Option A → List Lexeme → Type 0}
    → ((a b : List Lexeme) (x : Option A) → Item a x b → List Placed)
    → {front all : List A} {a b : List Lexeme} → Until ends (Adds Item) front a all b → List Placed
of_items each (done ended) = []
of_items each {a = a} (more {b = b} further (adds {item = x} item) others) = each a b x item ++ of_items each others

abbrev pub of_enum_item : (scope : List ℕ) (custom : CustomOptions) (a b : List Lexeme) (x : Option Heading)
    → IsEnumItem custom a x b → List Placed
of_enum_item scope custom a b x (enums-empty semicolon) = []
of_enum_item scope custom a b x (enums-option o) = of_option scope of_a.Enum o
of_enum_item scope custom a b x (enums-reserved r) = []
of_enum_item scope custom a b x (enums-value not_empty not_option not_reserved v) = of_value scope v

abbrev pub of_enum : (scope : List ℕ) → {custom : CustomOptions} {a b : List Lexeme} {x : EnumTree}
    → IsEnum custom a x b → List Placed
of_enum scope {custom = custom} (enum head items close_brace) = of_items (of_enum_item scope custom) items

-- what is behind the `{` of a message or a group, by the scopes around it and of it
abbrev pub OfInner : (List Lexeme → List Item → List Lexeme → Type 0) → Type 0
OfInner Inner = (outer scope : List ℕ) (a b : List Lexeme) (x : List Item) → Inner a x b → List Placed

abbrev pub of_braced : {Is : List Lexeme → Option Item → List Lexeme → Type 0}
    → ((a b : List Lexeme) (x : Option Item) → Is a x b → List Placed)
    → {a b : List Lexeme} {x : List Item} → IsBraced Is a x b → List Placed
of_braced each (braced items close_brace) = of_items each items

-- A group is a field by its brackets, and a message by its braces.
abbrev pub of_labelled : (scope : List ℕ) (syntax : Syntax) {Inner : List Lexeme → List Item → List Lexeme → Type 0}
    → OfInner Inner → {first : Span} {label : Option Label} {a b : List Lexeme} {x : Item}
    → IsLabelled syntax Inner first label a x b → List Placed
of_labelled scope syntax inner (labelled-field not_group f) = of_typed scope f
of_labelled scope syntax inner (labelled-group is_group (group {b = b} {c = c} {items = items} head inside)) =
    of_group_head scope head ++ inner scope (qualified scope (name_of_group head)) b c items inside

abbrev pub of_member : (scope : List ℕ) (syntax : Syntax) {Inner : List Lexeme → List Item → List Lexeme → Type 0}
    → OfInner Inner → {a b : List Lexeme} {x : Item} → IsMember syntax Inner a x b → List Placed
of_member scope syntax inner (member label rest) = of_labelled scope syntax inner rest

-- what is in a oneof has the scope of the oneof
abbrev pub of_oneof_item : (scope : List ℕ) (syntax : Syntax) {Inner : List Lexeme → List Item → List Lexeme → Type 0}
    → OfInner Inner → (a b : List Lexeme) (x : Option Item) → IsOneofItem syntax Inner a x b → List Placed
of_oneof_item scope syntax inner a b x (oneofs-empty semicolon) = []
of_oneof_item scope syntax inner a b x (oneofs-option o) = of_option scope of_a.Oneof o
of_oneof_item scope syntax inner a b x (oneofs-member not_empty not_option (oneof_member rest)) =
    of_labelled scope syntax inner rest

abbrev pub of_oneof : (scope : List ℕ) (syntax : Syntax) {Inner : List Lexeme → List Item → List Lexeme → Type 0}
    → OfInner Inner → {a b : List Lexeme} {x : BlockTree} → IsOneof syntax Inner a x b → List Placed
of_oneof scope syntax inner (oneof head inside) = of_braced (of_oneof_item scope syntax inner) inside

-- what is in an extend has the scope of the extend
abbrev pub of_extend_item : (scope : List ℕ) (syntax : Syntax) {Inner : List Lexeme → List Item → List Lexeme → Type 0}
    → OfInner Inner → (a b : List Lexeme) (x : Option Item) → IsExtendItem syntax Inner a x b → List Placed
of_extend_item scope syntax inner a b x (extends-empty semicolon) = []
of_extend_item scope syntax inner a b x (extends-member not_empty m) = of_member scope syntax inner m

-- An extend that is read past has no options that are told.
abbrev pub of_extend : (scope : List ℕ) (syntax : Syntax) {Inner : List Lexeme → List Item → List Lexeme → Type 0}
    → OfInner Inner → {a b : List Lexeme} {x : Option BlockTree} → IsExtendStatement Inner syntax a x b → List Placed
of_extend scope syntax inner (kept declares (extend keyword not_scalar type open_brace inside)) =
    of_braced (of_extend_item scope syntax inner) inside
of_extend scope syntax inner (passed e) = []

abbrev pub name_of_heading : {word : List ℕ} {a b : List Lexeme} {x : Heading} → IsHeading word a x b → List ℕ
name_of_heading (heading keyword name closing) = spelled name

abbrev pub of_message : (scope : List ℕ) {Inner : List Lexeme → List Item → List Lexeme → Type 0} → OfInner Inner
    → {a b : List Lexeme} {x : BlockTree} → IsMessage Inner a x b → List Placed
of_message scope inner (message {b = b} {c = c} {items = items} head inside) =
    inner scope (qualified scope (name_of_heading head)) b c items inside

-- of what is in a message, by the scope around the message and its own
abbrev pub of_message_item : (outer scope : List ℕ) (syntax : Syntax)
    {Inner : List Lexeme → List Item → List Lexeme → Type 0} → OfInner Inner
    → (a b : List Lexeme) (x : Option Item) → IsMessageItem syntax Inner a x b → List Placed
of_message_item outer scope syntax inner a b x (items-empty semicolon) = []
of_message_item outer scope syntax inner a b x (items-message m) = of_message scope inner m
of_message_item outer scope syntax inner a b x (items-enum e) = of_enum scope e
of_message_item outer scope syntax inner a b x (items-option o) = of_option outer of_a.Message o
of_message_item outer scope syntax inner a b x (items-oneof o) = of_oneof scope syntax inner o
of_message_item outer scope syntax inner a b x (items-map_field f) = of_map_field scope f
of_message_item outer scope syntax inner a b x (items-reserved r) = []
of_message_item outer scope syntax inner a b x (items-extend e) = of_extend scope syntax inner e
of_message_item outer scope syntax inner a b x (items-extensions is_proto2 e) = of_ranges outer e
of_message_item outer scope syntax inner a b x (items-member not_other m) = of_member scope syntax inner m

unfoldable pub of_inside : (syntax : Syntax) (levels : ℕ) → OfInner (IsInside syntax levels)
unfolding IsInside
of_inside syntax zero outer scope a b x inside = absurd inside
of_inside syntax (suc levels) outer scope a b x inside =
    of_braced (of_message_item outer scope syntax (of_inside syntax levels)) inside

-- ---- services

abbrev pub of_method_item : (scope : List ℕ) → {custom : CustomOptions} {a b : List Lexeme} → IsMethodItem custom a b
    → List Placed
of_method_item scope (method_items-empty semicolon) = []
of_method_item scope (method_items-option o) = of_option scope of_a.Method o

abbrev pub of_method_items : (scope : List ℕ) → {custom : CustomOptions} {ends : List Lexeme → Bool} {s t : Unit {0}}
    {a b : List Lexeme} → Until ends (Passes (IsMethodItem custom)) s a t b → List Placed
of_method_items scope (done ended) = []
of_method_items scope (more further (passes item) others) = of_method_item scope item ++ of_method_items scope others

abbrev pub of_method_end : (scope : List ℕ) → {custom : CustomOptions} {a b : List Lexeme} {x : Span}
    → IsMethodEnd custom a x b → List Placed
of_method_end scope (method_end-semicolon s) = []
of_method_end scope (method_end-body open_brace items close_brace) = of_method_items scope items

abbrev pub of_method : (scope : List ℕ) → {custom : CustomOptions} {a b : List Lexeme} {x : MethodTree}
    → IsMethod custom a x b → List Placed
of_method scope (method first name input returns output ending) = of_method_end scope ending

-- of what is in a service, by the scope around the service and its own
abbrev pub of_service_item : (outer scope : List ℕ) (custom : CustomOptions) (a b : List Lexeme) (x : Option MethodTree)
    → IsServiceItem custom a x b → List Placed
of_service_item outer scope custom a b x (services-empty semicolon) = []
of_service_item outer scope custom a b x (services-option o) = of_option outer of_a.Service o
of_service_item outer scope custom a b x (services-method m) = of_method scope m

abbrev pub of_service : (scope : List ℕ) → {custom : CustomOptions} {a b : List Lexeme} {x : ServiceTree}
    → IsService custom a x b → List Placed
of_service scope {custom = custom} (service head items close_brace) =
    of_items (of_service_item scope (qualified scope (name_of_heading head)) custom) items

-- ---- files, in the scope of their package

abbrev pub of_statement : (scope : List ℕ) (levels : ℕ) (syntax : Syntax) {from to : FileTree} {a b : List Lexeme}
    → IsStatement levels syntax from a to b → List Placed
of_statement scope levels syntax (statements-empty semicolon) = []
of_statement scope levels syntax (statements-import i) = []
of_statement scope levels syntax (statements-package_statement first p) = []
of_statement scope levels syntax (statements-option o) = of_option scope of_a.File o
of_statement scope levels syntax (statements-message m i) = of_message scope (of_inside syntax levels) i
of_statement scope levels syntax (statements-enum e) = of_enum scope e
of_statement scope levels syntax (statements-service s) = of_service scope s
of_statement scope levels syntax (statements-extend e) = of_extend scope syntax (of_inside syntax levels) e

abbrev pub of_statements : (scope : List ℕ) (levels : ℕ) (syntax : Syntax) {ends : List Lexeme → Bool}
    {from to : FileTree} {a b : List Lexeme} → Until ends (IsStatement levels syntax) from a to b → List Placed
of_statements scope levels syntax (done ended) = []
of_statements scope levels syntax (more further s others) =
    of_statement scope levels syntax s ++ of_statements scope levels syntax others

-- All options of a file whose package has this full name.
abbrev pub settings_of : (scope : List ℕ) {levels : ℕ} {dialect : Dialect} {tokens : List Lexeme} {x : FileTree}
    → IsFileWithin levels dialect tokens x → List Placed
settings_of scope {levels = levels} (file {syntax = syntax} version statements) =
    of_statements scope levels syntax statements
