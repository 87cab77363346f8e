-- The spans of a tree are at tokens, in the order of a walk.
use Rattle.std.proofs.Common.{◌≡◌, ℕ, zero, suc, Bool, Option, Some, None, option_map, option_to_list, List, []}
use Rattle.std.proofs.Common.{◌∷◌}
use Rattle.std.proofs.Common.{◌++◌, refl, sym, ◌∙◌, ap, subst, append_assoc, append-nil, codes}
use Rattle.proto_lex.specs.declared.span.Span.{Span}
use Rattle.proto_lex.specs.declared.token.TokenKind.TheVariants.{Identifier}
use Rattle.proto_grammar.specs.declared.dialect.CustomOptions.{CustomOptions}
use Rattle.proto_grammar.specs.declared.dialect.Dialect.{Dialect}
use Rattle.proto_grammar.specs.declared.dialect.Syntax.{Syntax}
use Rattle.proto_grammar.specs.declared.tree.Heading.{Heading}
use Rattle.proto_grammar.specs.declared.tree.Label.{Label}
use Rattle.proto_grammar.specs.declared.tree.TypeName.{TypeName}
use Rattle.proto_grammar.specs.declared.tree.FieldType.{FieldType}
use Rattle.proto_grammar.specs.declared.tree.Field.{Field}
use Rattle.proto_grammar.specs.declared.tree.MapField.{MapField}
use Rattle.proto_grammar.specs.declared.tree.Enum.{Enum}
use Rattle.proto_grammar.specs.declared.tree.Method.{Method}
use Rattle.proto_grammar.specs.declared.tree.Service.{Service}
use Rattle.proto_grammar.specs.declared.tree.Item.{Item}
use Rattle.proto_grammar.specs.declared.tree.Item.TheVariants as tree
use Rattle.proto_grammar.specs.declared.tree.FileItem.TheVariants as item
use Rattle.proto_grammar.specs.declared.tree.Import.{Import}
use Rattle.proto_grammar.specs.declared.tree.File.{File}
use Rattle.proto_grammar.specs.Lexeme.{Lexeme}
use Rattle.proto_steps.specs.Limits.{max_message_depth}
use Rattle.proto_grammar.specs.Syntax.{custom_of}
use Rattle.proto_grammar.specs.Tree.{BlockTree}
use Rattle.proto_grammar.specs.Items.{body_of}
use Rattle.proto_parse.specs.Walk.{Mark, Among, marks_of_items, marks_of_imports, marks_of_package}
use Rattle.proto_parse.specs.Walk.Among.{none as no_marks}
use Rattle.proto_parse.proofs.Walk.Then.{Name, Other, at_first, at_name, each_then, name_then, names_then, literal_then}
use Rattle.proto_parse.proofs.Walk.Then.{type_name_then, type_then, heading_then, field_then, map_field_then}
use Rattle.proto_parse.proofs.Walk.Then.{enum_then, leaf_then, body_then, block_then, method_then, service_then}
use Rattle.proto_parse.proofs.Walk.Then.{item_then, import_then, items_are, imports_are, package_is}
use Rattle.proto_grammar.specs.Grammar.Repetition.{Until, Adds}
use Rattle.proto_grammar.specs.Grammar.Repetition.One.{one}
use Rattle.proto_grammar.specs.Grammar.Repetition.Until.{done, more}
use Rattle.proto_grammar.specs.Grammar.Repetition.Adds.{adds}
use Rattle.proto_grammar.specs.Grammar.Names.{IsDotName, IsName, IsTypeName, IsType}
use Rattle.proto_grammar.specs.Grammar.Names.IsDotName.{dot_name}
use Rattle.proto_grammar.specs.Grammar.Names.IsName.{name}
use Rattle.proto_grammar.specs.Grammar.Names.IsTypeName.{rooted, plain as plain_name}
use Rattle.proto_grammar.specs.Grammar.Names.IsType.{scalar, named}
use Rattle.proto_grammar.specs.Grammar.Fields.{IsNumbered, IsTyped, IsMapField}
use Rattle.proto_grammar.specs.Grammar.Fields.IsNumbered.{numbered}
use Rattle.proto_grammar.specs.Grammar.Fields.IsTyped.{typed}
use Rattle.proto_grammar.specs.Grammar.Fields.IsGroupHead.{group_head}
use Rattle.proto_grammar.specs.Grammar.Fields.IsMapField.{map_field}
use Rattle.proto_parse.specs.Grammar.Messages.{IsHeading, IsValue, IsEnumItem, IsEnum, IsBraced, IsGroup, IsLabelled}
use Rattle.proto_parse.specs.Grammar.Messages.{IsMember, IsOneofItem, IsOneof, IsExtendItem, IsExtend}
use Rattle.proto_parse.specs.Grammar.Messages.{IsExtendStatement, IsMessage}
use Rattle.proto_parse.specs.Grammar.Messages.{IsMessageItem, IsInside}
use Rattle.proto_parse.specs.Grammar.Messages.IsHeading.{heading}
use Rattle.proto_parse.specs.Grammar.Messages.IsValue.{value}
use Rattle.proto_parse.specs.Grammar.Messages.IsEnumItem.{empty as enums-empty, option as enums-option}
use Rattle.proto_parse.specs.Grammar.Messages.IsEnumItem.{reserved as enums-reserved, value as enums-value}
use Rattle.proto_parse.specs.Grammar.Messages.IsEnum.{enum}
use Rattle.proto_parse.specs.Grammar.Messages.IsBraced.{braced}
use Rattle.proto_parse.specs.Grammar.Messages.IsGroup.{group}
use Rattle.proto_parse.specs.Grammar.Messages.IsLabelled.{field as labelled-field, group as labelled-group}
use Rattle.proto_parse.specs.Grammar.Messages.IsMember.{member}
use Rattle.proto_parse.specs.Grammar.Messages.IsOneofMember.{oneof_member}
use Rattle.proto_parse.specs.Grammar.Messages.IsOneofItem.{empty as oneofs-empty, option as oneofs-option}
use Rattle.proto_parse.specs.Grammar.Messages.IsOneofItem.{member as oneofs-member}
use Rattle.proto_parse.specs.Grammar.Messages.IsOneof.{oneof}
use Rattle.proto_parse.specs.Grammar.Messages.IsExtendItem.{empty as extends-empty, member as extends-member}
use Rattle.proto_parse.specs.Grammar.Messages.IsExtend.{extend}
use Rattle.proto_parse.specs.Grammar.Messages.IsExtendStatement.{kept, passed}
use Rattle.proto_parse.specs.Grammar.Messages.IsMessage.{message}
use Rattle.proto_parse.specs.Grammar.Messages.IsMessageItem.{empty as items-empty, message as items-message}
use Rattle.proto_parse.specs.Grammar.Messages.IsMessageItem.{enum as items-enum, option as items-option}
use Rattle.proto_parse.specs.Grammar.Messages.IsMessageItem.{oneof as items-oneof, map_field as items-map_field}
use Rattle.proto_parse.specs.Grammar.Messages.IsMessageItem.{reserved as items-reserved, extend as items-extend}
use Rattle.proto_parse.specs.Grammar.Messages.IsMessageItem.{extensions as items-extensions, member as items-member}
use Rattle.proto_parse.specs.Grammar.Services.{IsMethodType, IsMethodEnd, IsMethod, IsServiceItem, IsService}
use Rattle.proto_parse.specs.Grammar.Services.IsStream.{stream, no_stream}
use Rattle.proto_parse.specs.Grammar.Services.IsMethodType.{method_type}
use Rattle.proto_parse.specs.Grammar.Services.IsMethodEnd.{semicolon, body}
use Rattle.proto_parse.specs.Grammar.Services.IsMethod.{method}
use Rattle.proto_parse.specs.Grammar.Services.IsServiceItem.{empty as services-empty, option as services-option}
use Rattle.proto_parse.specs.Grammar.Services.IsServiceItem.{method as services-method}
use Rattle.proto_parse.specs.Grammar.Services.IsService.{service}
use Rattle.proto_parse.specs.Grammar.Files.{empty_file, IsPathLiteral, IsImport, IsPackage, IsStatement, IsFile}
use Rattle.proto_parse.specs.Grammar.Files.IsPathLiteral.{path_literal}
use Rattle.proto_parse.specs.Grammar.Files.IsImport.{import}
use Rattle.proto_parse.specs.Grammar.Files.IsPackage.{package_statement}
use Rattle.proto_parse.specs.Grammar.Files.IsStatement.{empty as statements-empty, import as statements-import}
use Rattle.proto_parse.specs.Grammar.Files.IsStatement.{package_statement as statements-package_statement}
use Rattle.proto_parse.specs.Grammar.Files.IsStatement.{option as statements-option, message as statements-message}
use Rattle.proto_parse.specs.Grammar.Files.IsStatement.{enum as statements-enum, service as statements-service}
use Rattle.proto_parse.specs.Grammar.Files.IsStatement.{extend as statements-extend}
use Rattle.proto_parse.specs.Grammar.Files.IsFileWithin.{file}
use Rattle.proto_grammar.proofs.TerminalTokenLemmas.{same_kind}
use Rattle.proto_parse.proofs.Walk.Past.{past, at_a_name, at_a_word, at_a_group_name, at_a_scalar, at_a_key}
use Rattle.proto_parse.proofs.Walk.Past.{at_a_literal, at_another, at_its_first, over}
use Rattle.proto_parse.proofs.GrammarTailLemmas.IsTail.{here}
use Rattle.proto_parse.proofs.GrammarTailLemmas.{until_past, option_past, options_past, label_past, integer_past}
use Rattle.proto_parse.proofs.GrammarTailLemmas.{reserved_past}
use Rattle.proto_parse.proofs.GrammarTailLemmas.{extensions_past, passed_extend_past, method_item_past, enum_past}
use Rattle.proto_parse.proofs.GrammarTailLemmas.{service_past}
use Rattle.proto_parse.proofs.GrammarTailLemmas.{file_message_past, file_extend_past, package_past, import_kind_past}
use Rattle.proto_parse.proofs.GrammarTailLemmas.{import_past}
use Rattle.proto_parse.proofs.GrammarTailLemmas.{syntax_past}

-- marks of two lists
pub each_then-append : {A : Type 0} (marks_then : A → List Mark → List Mark) (xs ys : List A) (marks : List Mark)
    → each_then marks_then (xs ++ ys) marks ≡ each_then marks_then xs (each_then marks_then ys marks)
each_then-append marks_then [] ys marks = refl
each_then-append marks_then (x ∷ xs) ys marks = ap (marks_then x) (each_then-append marks_then xs ys marks)

-- what a chain of steps puts behind a list that a state holds
abbrev pub Puts : {S A : Type 0} → (S → List A) → (A → List Mark → List Mark) → S → List Lexeme → S → List Lexeme
    → List Mark → Type 0
Puts {S} {A} items_of marks_then s a t b marks =
    (xs : List A) × (items_of t ≡ items_of s ++ xs) × Among (each_then marks_then xs marks) a

-- by what each step puts
pub until_puts : {S A : Type 0} {ends : List Lexeme → Bool} {Step : S → List Lexeme → S → List Lexeme → Type 0}
    (items_of : S → List A) (marks_then : A → List Mark → List Mark)
    → ((s t : S) (a b : List Lexeme) → Step s a t b → (marks : List Mark) → Among marks b
    → Puts items_of marks_then s a t b marks)
    → (s t : S) (a b : List Lexeme) → Until ends Step s a t b → (marks : List Mark) → Among marks b
    → Puts items_of marks_then s a t b marks
until_puts items_of marks_then puts s t a b (done e) marks behind = ([], sym (append-nil (items_of s)), behind)
until_puts items_of marks_then puts s u a c (more {t = t} {b = b} further first rest) marks behind =
    let later = until_puts items_of marks_then puts t u b c rest marks behind in
    let now = puts s t a b first (each_then marks_then later.0 marks) later.2 in (
      now.0 ++ later.0,
      later.1 ∙ ap (λ front. front ++ later.0) now.1 ∙ append_assoc (items_of s) now.0 later.0,
      rw (each_then-append marks_then now.0 later.0 marks) now.2,
    )

-- an item that is kept, or not
adds_puts : {A : Type 0} {Item : List Lexeme → Option A → List Lexeme → Type 0} (marks_then : A → List Mark → List Mark)
    → ((a b : List Lexeme) (x : Option A) → Item a x b → (marks : List Mark) → Among marks b
    → Among (each_then marks_then (option_to_list x) marks) a)
    → (s t : List A) (a b : List Lexeme) → Adds Item s a t b → (marks : List Mark) → Among marks b
    → Puts (λ items. items) marks_then s a t b marks
adds_puts marks_then puts s t a b (adds {item = x} i) marks behind = (option_to_list x, refl, puts a b x i marks behind)

-- a whole list, from none
all_marks : {A : Type 0} {ends : List Lexeme → Bool} {Item : List Lexeme → Option A → List Lexeme → Type 0}
    (marks_then : A → List Mark → List Mark)
    → ((a b : List Lexeme) (x : Option A) → Item a x b → (marks : List Mark) → Among marks b
    → Among (each_then marks_then (option_to_list x) marks) a)
    → {all : List A} {a b : List Lexeme} → Until ends (Adds Item) [] a all b → {marks : List Mark} → Among marks b
    → Among (each_then marks_then all marks) a
all_marks marks_then puts {all} {a} {b} u {marks} behind =
    let p = until_puts (λ items. items) marks_then (adds_puts marks_then puts) [] all a b u marks behind in
    rw p.1 p.2

-- a list from its first item on
others_marks : {A : Type 0} {ends : List Lexeme → Bool} {Item : List Lexeme → Option A → List Lexeme → Type 0}
    (marks_then : A → List Mark → List Mark)
    → ((a b : List Lexeme) (x : Option A) → Item a x b → (marks : List Mark) → Among marks b
    → Among (each_then marks_then (option_to_list x) marks) a)
    → {front : A} {all : List A} {a b : List Lexeme} → Until ends (Adds Item) (front ∷ []) a all b → {marks : List Mark}
    → Among marks b
    → (xs : List A) × (all ≡ front ∷ xs) × Among (each_then marks_then xs marks) a
others_marks marks_then puts {front} {all} {a} {b} u {marks} behind =
    until_puts (λ items. items) marks_then (adds_puts marks_then puts) (front ∷ []) all a b u marks behind

dot_name_marks : (a b : List Lexeme) (x : Option Span) → IsDotName a x b → (marks : List Mark) → Among marks b
    → Among (each_then name_then (option_to_list x) marks) a
dot_name_marks a b x (dot_name d n) marks behind = past d (at_a_name n behind)

name_marks : {a b : List Lexeme} {x : List Span} {marks : List Mark} → IsName a x b → Among marks b
    → Among (names_then x marks) a
name_marks {marks = marks} (name t u) behind =
    let others = others_marks name_then dot_name_marks u behind in
    rw others.1 (at_a_name t others.2)

type_name_marks : {a b : List Lexeme} {x : TypeName} {marks : List Mark} → IsTypeName a x b → Among marks b
    → Among (type_name_then x marks) a
type_name_marks (rooted d n) behind = at_another d (name_marks n behind)
type_name_marks (plain_name n) behind = name_marks n behind

type_marks : {a b : List Lexeme} {x : FieldType} {marks : List Mark} → IsType a x b → Among marks b
    → Among (type_then x marks) a
type_marks (scalar is w) behind = at_a_scalar w behind
type_marks (named not n) behind = type_name_marks n behind

-- behind the first token of a field: the rest of the field's marks
numbered_marks : {custom : CustomOptions} {first : Span} {a b : List Lexeme} {x : Heading} {marks : List Mark}
    → IsNumbered custom first a x b → Among marks b
    → Among (Name x.name ∷ (Other x.closing ∷ marks)) a
numbered_marks (numbered n q i o s) behind =
    at_a_name n (past q (past i (over (options_past o here) (at_another s behind))))

numbered_first : {custom : CustomOptions} {first : Span} {a b : List Lexeme} {x : Heading}
    → IsNumbered custom first a x b → x.first ≡ first
numbered_first (numbered n q i o s) = refl

map_field_marks : {custom : CustomOptions} {a b : List Lexeme} {x : MapField} {marks : List Mark}
    → IsMapField custom a x b → Among marks b → Among (map_field_then x marks) a
map_field_marks (map_field f l k c v g h) behind =
    rw (numbered_first h) (at_its_first f
    (past l (at_a_key k (past c (type_marks v (past g (numbered_marks h behind)))))))

heading_marks : {word : List ℕ} {a b : List Lexeme} {x : Heading} {marks : List Mark} → IsHeading word a x b
    → Among marks b → Among (heading_then x marks) a
heading_marks (heading f n c) behind = at_its_first f (at_a_name n (at_another c behind))

value_marks : {custom : CustomOptions} {a b : List Lexeme} {x : Heading} {marks : List Mark} → IsValue custom a x b
    → Among marks b → Among (heading_then x marks) a
value_marks (value (one {t} e) q i o s) behind =
    at_first (at_name (same_kind Identifier t.kind e) (past q (over (integer_past i (options_past o here))
    (at_another s behind))))

enum_item_marks : (custom : CustomOptions) (a b : List Lexeme) (x : Option Heading) → IsEnumItem custom a x b
    → (marks : List Mark) → Among marks b
    → Among (each_then heading_then (option_to_list x) marks) a
enum_item_marks custom a b x (enums-empty s) marks behind = past s behind
enum_item_marks custom a b x (enums-option o) marks behind = over (option_past o here) behind
enum_item_marks custom a b x (enums-reserved r) marks behind = over (reserved_past r here) behind
enum_item_marks custom a b x (enums-value p q r v) marks behind = value_marks v behind

enum_marks : {custom : CustomOptions} {a b : List Lexeme} {x : Enum} {marks : List Mark} → IsEnum custom a x b
    → Among marks b → Among (enum_then x marks) a
enum_marks {custom} (enum h u c) behind =
    heading_marks h (all_marks heading_then (enum_item_marks custom) u (past c behind))

-- the marks of one item of a block
abbrev block_item_then : Item → List Mark → List Mark
block_item_then (tree.Block b) marks = block_then b marks
block_item_then (tree.Leaf leaf) marks = leaf_then leaf marks

body_marks : (items : List Item) (marks : List Mark)
    → each_then block_item_then items marks ≡ body_then (body_of items) marks
body_marks [] marks = refl
body_marks (tree.Block b ∷ items) marks = ap (block_then b) (body_marks items marks)
body_marks (tree.Leaf leaf ∷ items) marks = ap (leaf_then leaf) (body_marks items marks)

-- what is read is at tokens
abbrev MarkedBy : {A : Type 0} → (A → List Mark → List Mark) → (List Lexeme → A → List Lexeme → Type 0) → Type 0
MarkedBy {A} marks_then Is =
    (a b : List Lexeme) (x : A) → Is a x b → (marks : List Mark) → Among marks b → Among (marks_then x marks) a

-- what is inside
abbrev items_then : List Item → List Mark → List Mark
items_then items marks = body_then (body_of items) marks

-- one item, if it is kept
abbrev option_then : Option Item → List Mark → List Mark
option_then item marks = each_then block_item_then (option_to_list item) marks

braced_marks : (Is : List Lexeme → Option Item → List Lexeme → Type 0) → MarkedBy option_then Is
    → MarkedBy items_then (IsBraced Is)
braced_marks Is marked a b x (braced u c) marks behind =
    rw (← body_marks x marks) (all_marks block_item_then marked u (past c behind))

-- a group and a field, of which the first token is known
group_marks : (custom : CustomOptions) (Inner : List Lexeme → List Item → List Lexeme → Type 0)
    → MarkedBy items_then Inner → (t : Lexeme) (label : Option Label) (rest a b : List Lexeme) (x : BlockTree)
    → ((marks : List Mark) → Among marks a → Among marks (t ∷ rest))
    → IsGroup custom Inner t.span label a x b → (marks : List Mark) → Among marks b
    → Among (block_then x marks) (t ∷ rest)
group_marks custom Inner marked t label rest a c x earlier
    (group {b = b} {items = items} (group_head w n q i o k) inside) marks behind =
    at_first (earlier _ (at_a_word (codes "group") w (at_a_group_name n (past q (past i (over (options_past o here)
    (at_another k (marked b c items inside marks behind))))))))

field_marks : {custom : CustomOptions} {t : Lexeme} {label : Option Label} {rest a b : List Lexeme} {x : Field}
    {marks : List Mark} → ((marks : List Mark) → Among marks a → Among marks (t ∷ rest))
    → IsTyped custom t.span label a x b → Among marks b
    → Among (field_then x marks) (t ∷ rest)
field_marks earlier (typed y n) behind =
    rw (numbered_first n) (at_first (earlier _ (type_marks y (numbered_marks n behind))))

labelled_marks : (syntax : Syntax) (Inner : List Lexeme → List Item → List Lexeme → Type 0)
    → MarkedBy items_then Inner → (t : Lexeme) (label : Option Label) (rest a b : List Lexeme) (x : Item)
    → ((marks : List Mark) → Among marks a → Among marks (t ∷ rest))
    → IsLabelled syntax Inner t.span label a x b → (marks : List Mark) → Among marks b
    → Among (block_item_then x marks) (t ∷ rest)
labelled_marks syntax Inner marked t label rest a b x earlier (labelled-field is f) marks behind =
    field_marks earlier f behind
labelled_marks syntax Inner marked t label rest a b x earlier (labelled-group {group = g} is i) marks behind =
    group_marks (custom_of syntax) Inner marked t label rest a b g earlier i marks behind

member_marks : (syntax : Syntax) (Inner : List Lexeme → List Item → List Lexeme → Type 0)
    → MarkedBy items_then Inner → MarkedBy block_item_then (IsMember syntax Inner)
member_marks syntax Inner marked a c x (member {t = t} {rest = rest} {b = b} {label = label} l i) marks behind =
    labelled_marks syntax Inner marked t label rest b c x (λ marks behind. over (label_past l here) behind) i marks
    behind

oneof_item_marks : (syntax : Syntax) (Inner : List Lexeme → List Item → List Lexeme → Type 0)
    → MarkedBy items_then Inner → MarkedBy option_then (IsOneofItem syntax Inner)
oneof_item_marks syntax Inner marked a b x (oneofs-empty s) marks behind = past s behind
oneof_item_marks syntax Inner marked a b x (oneofs-option o) marks behind = over (option_past o here) behind
oneof_item_marks syntax Inner marked a b x
    (oneofs-member {item = y} p q (oneof_member {t = t} {rest = rest} i)) marks behind =
    labelled_marks syntax Inner marked t None rest (t ∷ rest) b y (λ marks behind. behind) i marks behind

extend_item_marks : (syntax : Syntax) (Inner : List Lexeme → List Item → List Lexeme → Type 0)
    → MarkedBy items_then Inner → MarkedBy option_then (IsExtendItem syntax Inner)
extend_item_marks syntax Inner marked a b x (extends-empty s) marks behind = past s behind
extend_item_marks syntax Inner marked a b x (extends-member {item = y} p m) marks behind =
    member_marks syntax Inner marked a b y m marks behind

oneof_marks : (syntax : Syntax) (Inner : List Lexeme → List Item → List Lexeme → Type 0)
    → MarkedBy items_then Inner → MarkedBy block_then (IsOneof syntax Inner)
oneof_marks syntax Inner marked a c x (oneof {b = b} {items = items} h i) marks behind =
    heading_marks h
    (braced_marks (IsOneofItem syntax Inner) (oneof_item_marks syntax Inner marked) b c items i marks behind)

extend_marks : (syntax : Syntax) (Inner : List Lexeme → List Item → List Lexeme → Type 0)
    → MarkedBy items_then Inner → MarkedBy block_then (IsExtend syntax Inner)
extend_marks syntax Inner marked a e x (extend {d = d} {items = items} k not n o i) marks behind =
    past k (type_name_marks n (past o
    (braced_marks (IsExtendItem syntax Inner) (extend_item_marks syntax Inner marked) d e items i marks behind)))

message_marks : (Inner : List Lexeme → List Item → List Lexeme → Type 0) → MarkedBy items_then Inner
    → MarkedBy block_then (IsMessage Inner)
message_marks Inner marked a c x (message {b = b} {items = items} h i) marks behind =
    heading_marks h (marked b c items i marks behind)

-- an extend, if it is kept
abbrev extended_then : Option BlockTree → List Mark → List Mark
extended_then extended marks = each_then block_then (option_to_list extended) marks

extend_statement_marks : (syntax : Syntax) (Inner : List Lexeme → List Item → List Lexeme → Type 0)
    → MarkedBy items_then Inner → MarkedBy extended_then (IsExtendStatement Inner syntax)
extend_statement_marks syntax Inner marked a b x (kept {extend = y} is e) marks behind =
    extend_marks syntax Inner marked a b y e marks behind
extend_statement_marks syntax Inner marked a b x (passed e) marks behind = over (passed_extend_past e here) behind

block_item_marks : (x : Option BlockTree) (marks : List Mark)
    → option_then (option_map tree.Block x) marks ≡ extended_then x marks
block_item_marks None marks = refl
block_item_marks (Some b) marks = refl

message_item_marks : (syntax : Syntax) (Inner : List Lexeme → List Item → List Lexeme → Type 0)
    → MarkedBy items_then Inner → MarkedBy option_then (IsMessageItem syntax Inner)
message_item_marks syntax Inner marked a b x (items-empty s) marks behind = past s behind
message_item_marks syntax Inner marked a b x (items-message {message = y} i) marks behind =
    message_marks Inner marked a b y i marks behind
message_item_marks syntax Inner marked a b x (items-enum e) marks behind = enum_marks e behind
message_item_marks syntax Inner marked a b x (items-option o) marks behind = over (option_past o here) behind
message_item_marks syntax Inner marked a b x (items-oneof {oneof = y} o) marks behind =
    oneof_marks syntax Inner marked a b y o marks behind
message_item_marks syntax Inner marked a b x (items-map_field f) marks behind = map_field_marks f behind
message_item_marks syntax Inner marked a b x (items-reserved r) marks behind = over (reserved_past r here) behind
message_item_marks syntax Inner marked a b x (items-extend {extend = y} e) marks behind =
    rw (block_item_marks y marks) (extend_statement_marks syntax Inner marked a b y e marks behind)
message_item_marks syntax Inner marked a b x (items-extensions allowed r) marks behind =
    over (extensions_past r here) behind
message_item_marks syntax Inner marked a b x (items-member {item = y} is m) marks behind =
    member_marks syntax Inner marked a b y m marks behind

inside_marks : (syntax : Syntax) (levels : ℕ) → MarkedBy items_then (IsInside syntax levels)
unfolding IsInside
inside_marks syntax zero a b x i marks behind = absurd i
inside_marks syntax (suc levels) a b x i marks behind =
    braced_marks (IsMessageItem syntax (IsInside syntax levels))
    (message_item_marks syntax (IsInside syntax levels) (inside_marks syntax levels)) a b x i marks behind

method_type_marks : {a b : List Lexeme} {x : TypeName} {marks : List Mark} → IsMethodType a x b → Among marks b
    → Among (type_name_then x marks) a
method_type_marks (method_type o (stream w) not n c) behind = past o (past w (type_name_marks n (past c behind)))
method_type_marks (method_type o (no_stream none_next) not n c) behind = past o (type_name_marks n (past c behind))

method_end_marks : {custom : CustomOptions} {a b : List Lexeme} {x : Span} {marks : List Mark}
    → IsMethodEnd custom a x b → Among marks b → Among (Other x ∷ marks) a
method_end_marks (semicolon s) behind = at_another s behind
method_end_marks {custom} {marks = marks} (body o u c) behind =
    at_another o (over (until_past _ (method_item_past custom _) _ _ _ _ u here) (past c behind))

method_marks : {custom : CustomOptions} {a b : List Lexeme} {x : Method} {marks : List Mark} → IsMethod custom a x b
    → Among marks b → Among (method_then x marks) a
method_marks (method f n i r o c) behind =
    at_its_first f (at_a_name n (method_type_marks i (past r (method_type_marks o (method_end_marks c behind)))))

service_item_marks : (custom : CustomOptions) (a b : List Lexeme) (x : Option Method) → IsServiceItem custom a x b
    → (marks : List Mark) → Among marks b
    → Among (each_then method_then (option_to_list x) marks) a
service_item_marks custom a b x (services-empty s) marks behind = past s behind
service_item_marks custom a b x (services-option o) marks behind = over (option_past o here) behind
service_item_marks custom a b x (services-method m) marks behind = method_marks m behind

service_marks : {custom : CustomOptions} {a b : List Lexeme} {x : Service} {marks : List Mark} → IsService custom a x b
    → Among marks b → Among (service_then x marks) a
service_marks {custom} (service h u c) behind =
    heading_marks h (all_marks method_then (service_item_marks custom) u (past c behind))

path_literal_marks : (a b : List Lexeme) (x : Option Span) → IsPathLiteral a x b → (marks : List Mark) → Among marks b
    → Among (each_then literal_then (option_to_list x) marks) a
path_literal_marks a b x (path_literal l) marks behind = at_a_literal l behind

import_marks : {a b : List Lexeme} {x : Import} {marks : List Mark} → IsImport a x b → Among marks b
    → Among (import_then x marks) a
import_marks (import k i l u s) behind =
    let others = others_marks literal_then path_literal_marks u (past s behind) in
    past k (over (import_kind_past i here) (rw others.1 (at_a_literal l others.2)))

pub package_marks : {a b : List Lexeme} {x : List Span} {marks : List Mark} → IsPackage a x b → Among marks b
    → Among (names_then x marks) a
package_marks (package_statement k n s) behind = past k (name_marks n (past s behind))

-- an extend of a file, if it is kept
file_extend_marks : (x : Option BlockTree) (marks : List Mark)
    → each_then item_then (option_to_list (option_map item.Block x)) marks ≡ extended_then x marks
file_extend_marks None marks = refl
file_extend_marks (Some b) marks = refl

-- what a statement puts into the file
pub statement_items : (syntax : Syntax) (f g : File) (a b : List Lexeme) → IsStatement max_message_depth syntax f a g b
    → (marks : List Mark) → Among marks b
    → Puts (λ (x : File). x.items) item_then f a g b marks
statement_items syntax f g a b (statements-empty s) marks behind = ([], sym (append-nil f.items), past s behind)
statement_items syntax f g a b (statements-import i) marks behind =
    ([], sym (append-nil f.items), over (import_past i here) behind)
statement_items syntax f g a b (statements-package_statement none_yet p) marks behind =
    ([], sym (append-nil f.items), over (package_past p here) behind)
statement_items syntax f g a b (statements-option o) marks behind =
    ([], sym (append-nil f.items), over (option_past o here) behind)
statement_items syntax f g a b (statements-message m i) marks behind = (
  item.Block m ∷ [],
  refl,
  message_marks (IsInside syntax max_message_depth) (inside_marks syntax max_message_depth) a b m i marks behind,
)
statement_items syntax f g a b (statements-enum {enum = e} i) marks behind =
    (item.Enum e ∷ [], refl, enum_marks i behind)
statement_items syntax f g a b (statements-service {service = s} i) marks behind =
    (item.Service s ∷ [], refl, service_marks i behind)
statement_items syntax f g a b (statements-extend {extend = x} e) marks behind = (
  option_to_list (option_map item.Block x),
  refl,
  rw (file_extend_marks x marks) (extend_statement_marks syntax (IsInside syntax max_message_depth)
      (inside_marks syntax max_message_depth) a b x e marks behind),
)

statement_imports : (syntax : Syntax) (f g : File) (a b : List Lexeme) → IsStatement max_message_depth syntax f a g b
    → (marks : List Mark) → Among marks b
    → Puts (λ (x : File). x.imports) import_then f a g b marks
statement_imports syntax f g a b (statements-empty s) marks behind = ([], sym (append-nil f.imports), past s behind)
statement_imports syntax f g a b (statements-import {import = x} i) marks behind =
    (x ∷ [], refl, import_marks i behind)
statement_imports syntax f g a b (statements-package_statement none_yet p) marks behind =
    ([], sym (append-nil f.imports), over (package_past p here) behind)
statement_imports syntax f g a b (statements-option o) marks behind =
    ([], sym (append-nil f.imports), over (option_past o here) behind)
statement_imports syntax f g a b (statements-message m i) marks behind =
    ([], sym (append-nil f.imports), over (file_message_past syntax a b m i b here) behind)
statement_imports syntax f g a b (statements-enum i) marks behind =
    ([], sym (append-nil f.imports), over (enum_past i here) behind)
statement_imports syntax f g a b (statements-service i) marks behind =
    ([], sym (append-nil f.imports), over (service_past i here) behind)
statement_imports syntax f g a b (statements-extend {extend = x} e) marks behind =
    ([], sym (append-nil f.imports), over (file_extend_past syntax a b x e b here) behind)

abbrev packages_of : File → List (List Span)
packages_of f = option_to_list f.package_name

statement_package : (syntax : Syntax) (f g : File) (a b : List Lexeme) → IsStatement max_message_depth syntax f a g b
    → (marks : List Mark) → Among marks b
    → Puts packages_of names_then f a g b marks
statement_package syntax f g a b (statements-empty s) marks behind =
    ([], sym (append-nil (packages_of f)), past s behind)
statement_package syntax f g a b (statements-import i) marks behind =
    ([], sym (append-nil (packages_of f)), over (import_past i here) behind)
statement_package syntax f g a b (statements-package_statement {components = x} none_yet p) marks behind =
    (x ∷ [], rw none_yet refl, package_marks p behind)
statement_package syntax f g a b (statements-option o) marks behind =
    ([], sym (append-nil (packages_of f)), over (option_past o here) behind)
statement_package syntax f g a b (statements-message m i) marks behind =
    ([], sym (append-nil (packages_of f)), over (file_message_past syntax a b m i b here) behind)
statement_package syntax f g a b (statements-enum i) marks behind =
    ([], sym (append-nil (packages_of f)), over (enum_past i here) behind)
statement_package syntax f g a b (statements-service i) marks behind =
    ([], sym (append-nil (packages_of f)), over (service_past i here) behind)
statement_package syntax f g a b (statements-extend {extend = x} e) marks behind =
    ([], sym (append-nil (packages_of f)), over (file_extend_past syntax a b x e b here) behind)

-- what is at tokens, in another form
same_among : (marks same : List Mark) (a : List Lexeme) → marks ≡ same → Among marks a → Among same a
same_among marks same a e among = subst (λ (ms : List Mark). Among ms a) e among

pub items_among : {dialect : Dialect} {a : List Lexeme} (f : File) → IsFile dialect a f
    → Among (marks_of_items f) a
items_among {a = a} f (file {b = b} {c = c} {syntax = syntax} s u) =
    let p = until_puts (λ (x : File). x.items) item_then (statement_items syntax) empty_file f b c u [] no_marks in
    let among : Among (each_then item_then f.items []) a = over (syntax_past s here) (rw p.1 p.2) in
    same_among (each_then item_then f.items []) (marks_of_items f) a (items_are f.items) among

pub imports_among : {dialect : Dialect} {a : List Lexeme} (f : File) → IsFile dialect a f
    → Among (marks_of_imports f) a
imports_among {a = a} f (file {b = b} {c = c} {syntax = syntax} s u) =
    let p = until_puts (λ (x : File). x.imports) import_then (statement_imports syntax) empty_file f b c u [] no_marks
    in
    let among : Among (each_then import_then f.imports []) a = over (syntax_past s here) (rw p.1 p.2) in
    same_among (each_then import_then f.imports []) (marks_of_imports f) a (imports_are f) among

pub package_among : {dialect : Dialect} {a : List Lexeme} (f : File) → IsFile dialect a f
    → Among (marks_of_package f) a
package_among {a = a} f (file {b = b} {c = c} {syntax = syntax} s u) =
    let p = until_puts packages_of names_then (statement_package syntax) empty_file f b c u [] no_marks in
    let among : Among (each_then names_then (packages_of f) []) a = over (syntax_past s here) (rw p.1 p.2) in
    same_among (each_then names_then (packages_of f) []) (marks_of_package f) a (package_is f) among
