-- What is read is in the grammar: enums, messages, groups, oneofs, extends and services.
use Rattle.std.proofs.Common.{◌≡◌, ℕ, zero, suc, true, false, ◌&&◌, Option, Some, None, List, [], ◌∷◌}
use Rattle.std.proofs.Common.{refl, subst, codes}
use Rattle.proto_lex.specs.declared.span.Span.{Span}
use Rattle.proto_lex.specs.declared.token.TokenKind.TheVariants.{Identifier, Semicolon, Equals, OpenBrace, CloseBrace}
use Rattle.proto_lex.specs.declared.token.TokenKind.TheVariants.{OpenParenthesis, CloseParenthesis}
use Rattle.proto_grammar.specs.declared.dialect.CustomOptions.{CustomOptions}
use Rattle.proto_grammar.specs.declared.dialect.CustomOptions.TheVariants.{Refuse, Skip}
use Rattle.proto_grammar.specs.declared.dialect.Syntax.{Syntax}
use Rattle.proto_grammar.specs.declared.dialect.Syntax.TheVariants.{Proto3, Extended, Proto2}
use Rattle.proto_grammar.specs.declared.tree.Heading.{Heading}
use Rattle.proto_grammar.specs.declared.tree.Label.{Label}
use Rattle.proto_grammar.specs.declared.tree.TypeName.{TypeName}
use Rattle.proto_grammar.specs.declared.tree.Enum.{Enum}
use Rattle.proto_grammar.specs.declared.tree.Method.{Method}
use Rattle.proto_grammar.specs.declared.tree.Service.{Service}
use Rattle.proto_grammar.specs.declared.tree.Item.{Item}
use Rattle.proto_steps.specs.declared.statement.MessageStatement.{MessageStatement}
use Rattle.proto_steps.specs.declared.statement.MessageStatement.TheVariants as choice
use Rattle.proto_grammar.specs.Lexeme.{Lexeme}
use Rattle.proto_grammar.specs.Terminal.{first_is, of_kind, is_word, closes, begins_group}
use Rattle.proto_grammar.specs.Syntax.{custom_of, is_proto2}
use Rattle.proto_steps.specs.Choice.{message_statement_of}
use Rattle.proto_grammar.specs.Tree.{BlockTree}
use Rattle.proto_grammar.specs.Grammar.Repetition.{Passes, Adds}
use Rattle.proto_parse.specs.Grammar.Messages.{IsHeading, IsValue, IsEnumItem, IsEnum, IsBraced, IsGroup, IsLabelled}
use Rattle.proto_parse.specs.Grammar.Messages.{IsMember, IsOneofMember, IsOneofItem, IsOneof, IsExtendItem, IsExtend}
use Rattle.proto_parse.specs.Grammar.Messages.{IsPassedItem, IsPassedExtend, IsExtendStatement, IsMessage}
use Rattle.proto_parse.specs.Grammar.Messages.{IsMessageItem, IsInside}
use Rattle.proto_parse.specs.Grammar.Messages.IsHeading.{heading}
use Rattle.proto_parse.specs.Grammar.Messages.IsValue.{value}
use Rattle.proto_parse.specs.Grammar.Messages.IsEnumItem.{empty as enums-empty, option as enums-option}
use Rattle.proto_parse.specs.Grammar.Messages.IsEnumItem.{reserved as enums-reserved, value as enums-value}
use Rattle.proto_parse.specs.Grammar.Messages.IsEnum.{enum}
use Rattle.proto_parse.specs.Grammar.Messages.IsBraced.{braced}
use Rattle.proto_parse.specs.Grammar.Messages.IsGroup.{group}
use Rattle.proto_parse.specs.Grammar.Messages.IsLabelled.{field as labelled-field, group as labelled-group}
use Rattle.proto_parse.specs.Grammar.Messages.IsMember.{member}
use Rattle.proto_parse.specs.Grammar.Messages.IsOneofMember.{oneof_member}
use Rattle.proto_parse.specs.Grammar.Messages.IsOneofItem.{empty as oneofs-empty, option as oneofs-option}
use Rattle.proto_parse.specs.Grammar.Messages.IsOneofItem.{member as oneofs-member}
use Rattle.proto_parse.specs.Grammar.Messages.IsOneof.{oneof}
use Rattle.proto_parse.specs.Grammar.Messages.IsExtendItem.{empty as extends-empty, member as extends-member}
use Rattle.proto_parse.specs.Grammar.Messages.IsExtend.{extend}
use Rattle.proto_parse.specs.Grammar.Messages.IsPassedItem.{empty as passes-empty, field as passes-field}
use Rattle.proto_parse.specs.Grammar.Messages.IsPassedExtend.{passed_extend}
use Rattle.proto_parse.specs.Grammar.Messages.IsExtendStatement.{kept, passed}
use Rattle.proto_parse.specs.Grammar.Messages.IsMessage.{message}
use Rattle.proto_parse.specs.Grammar.Messages.IsMessageItem.{empty as items-empty, message as items-message}
use Rattle.proto_parse.specs.Grammar.Messages.IsMessageItem.{enum as items-enum, option as items-option}
use Rattle.proto_parse.specs.Grammar.Messages.IsMessageItem.{oneof as items-oneof, map_field as items-map_field}
use Rattle.proto_parse.specs.Grammar.Messages.IsMessageItem.{reserved as items-reserved, extend as items-extend}
use Rattle.proto_parse.specs.Grammar.Messages.IsMessageItem.{extensions as items-extensions, member as items-member}
use Rattle.proto_parse.specs.Grammar.Services.{IsStream, IsMethodType, IsMethodItem, IsMethodEnd, IsMethod}
use Rattle.proto_parse.specs.Grammar.Services.{IsServiceItem, IsService}
use Rattle.proto_parse.specs.Grammar.Services.IsStream.{stream, no_stream}
use Rattle.proto_parse.specs.Grammar.Services.IsMethodType.{method_type}
use Rattle.proto_parse.specs.Grammar.Services.IsMethodItem.{empty as method_items-empty, option as method_items-option}
use Rattle.proto_parse.specs.Grammar.Services.IsMethodEnd.{semicolon, body}
use Rattle.proto_parse.specs.Grammar.Services.IsMethod.{method}
use Rattle.proto_parse.specs.Grammar.Services.IsServiceItem.{empty as services-empty, option as services-option}
use Rattle.proto_parse.specs.Grammar.Services.IsServiceItem.{method as services-method}
use Rattle.proto_parse.specs.Grammar.Services.IsService.{service}
use Rattle.proto_grammar.specs.Reading.Repetition.{Read, token_that, span_at, adding, passing, until_at}
use Rattle.proto_grammar.specs.Reading.Names.{named_type_at, pass_type_name_at}
use Rattle.proto_grammar.specs.Reading.Options.{option_at, options_at}
use Rattle.proto_grammar.specs.Reading.Fields.{typed_at, label_at, group_head_at, map_field_at}
use Rattle.proto_grammar.specs.Reading.Reserved.{integer_at, reserved_at, extensions_at}
use Rattle.proto_parse.proofs.Reading.Messages.{braced_at}
use Rattle.proto_parse.proofs.Reading.Messages.{group_at, labelled_at, member_at, oneof_member_at, oneof_item_at}
use Rattle.proto_parse.proofs.Reading.Messages.{extend_item_at, oneof_at, extend_at, passed_item_at, passed_items_at}
use Rattle.proto_parse.proofs.Reading.Messages.{passed_extend_at, extend_statement_at, message_at, ranges_at}
use Rattle.proto_parse.proofs.Reading.Messages.{message_item_by, message_item_at, inside_at}
use Rattle.proto_parse.proofs.Reading.Enums.{heading_at, enum_at, value_at, enum_item_at, enum_items_at}
use Rattle.proto_parse.proofs.Reading.Services.{stream_at, method_type_at, method_item_at, method_items_at}
use Rattle.proto_parse.proofs.Reading.Services.{method_body_at, method_end_at, method_at, service_item_at}
use Rattle.proto_parse.proofs.Reading.Services.{service_items_at, service_at}
use Rattle.proto_grammar.proofs.RepetitionStepLemmas.{same_ok, bind_ok, guard_ok}
use Rattle.proto_lex.proofs.ReadingTestLemmas.{chosen}
use Rattle.proto_grammar.proofs.TerminalTokenLemmas.{token_found, next_found}
use Rattle.proto_parse.proofs.Choices.{member_next}
use Rattle.proto_grammar.proofs.RepetitionUntilLemmas.{until_at-found, adding-found, passing-found}
use Rattle.proto_grammar.proofs.Found.Names.{named_type_found, pass_type_name_found}
use Rattle.proto_grammar.proofs.Found.Options.{left_of, option_found, options_found}
use Rattle.proto_grammar.proofs.Found.Fields.{typed_found, label_found, group_head_found, map_field_found}
use Rattle.proto_grammar.proofs.Found.Fields.{pass_field_found, integer_found, reserved_found, extensions_found}
use Rattle.proto_grammar.specs.declared.fault.SyntaxFault.TheVariants as fault
use Rattle.proto_grammar.specs.declared.fault.SyntaxFault.TheVariants.{TooDeep}
use Rattle.proto_parse.proofs.Reading.Messages.{Inside}
use Rattle.std.proofs.Common.{Ok, Err}
use Rattle.proto_grammar.proofs.RepetitionStepLemmas.{read_as}
use Rattle.proto_grammar.specs.Terminal.{offset_at}
use Rattle.proto_grammar.specs.Lexeme.{Place, place_of}

pub heading_found : (word : List ℕ) (tokens : Place) (x : Heading × Place) → heading_at word tokens ≡ Ok x
    → IsHeading word tokens.left x.0 x.1.left
unfolding heading_at
heading_found word tokens x e =
    let k = bind_ok (token_that (is_word word) tokens) _ x e in
    let n = bind_ok (token_that (of_kind Identifier) k.0.1) _ x k.2 in
    let o = bind_ok (token_that (of_kind OpenBrace) n.0.1) _ x n.2 in
    subst (λ (y : Heading × Place). IsHeading word tokens.left y.0 y.1.left) (same_ok _ x o.2)
    (heading (token_found _ _ k.1) (token_found _ _ n.1) (token_found _ _ o.1))

value_found : (custom : CustomOptions) (tokens : Place) (x : Heading × Place)
    → value_at custom tokens ≡ Ok x → IsValue custom tokens.left x.0 x.1.left
unfolding value_at
value_found custom tokens x e =
    let n = bind_ok (token_that (of_kind Identifier) tokens) _ x e in
    let q = bind_ok (token_that (of_kind Equals) n.0.1) _ x n.2 in
    let i = bind_ok (integer_at true q.0.1) _ x q.2 in
    let o = bind_ok (options_at custom i.0.1) _ x i.2 in
    let s = bind_ok (token_that (of_kind Semicolon) o.0.1) _ x o.2 in
    subst (λ (y : Heading × Place). IsValue custom tokens.left y.0 y.1.left) (same_ok _ x s.2)
    (value (token_found _ _ n.1) (token_found _ _ q.1) (integer_found true _ _ i.1) (options_found custom _ _ o.1)
    (token_found _ _ s.1))

pub enum_item_found : (custom : CustomOptions) (tokens : Place) (x : Option Heading × Place)
    → enum_item_at custom tokens ≡ Ok x → IsEnumItem custom tokens.left x.0 x.1.left
unfolding enum_item_at
enum_item_found custom tokens x e =
    chosen (first_is (of_kind Semicolon) tokens.left) {z = Ok x} e
    (λ is read. subst (λ (y : Option Heading × Place). IsEnumItem custom tokens.left y.0 y.1.left) (same_ok _ x read)
    (enums-empty (next_found tokens.left is).1))
    (λ no_semicolon read. chosen (first_is (is_word (codes "option")) tokens.left) {z = Ok x} read
    (λ _ read.
    let o = bind_ok (option_at custom tokens) _ x read in
    subst (λ (y : Option Heading × Place). IsEnumItem custom tokens.left y.0 y.1.left) (same_ok _ x o.2)
    (enums-option (option_found custom _ _ o.1)))
    (λ no_option read. chosen (first_is (is_word (codes "reserved")) tokens.left) {z = Ok x} read
    (λ _ read.
    let r = bind_ok (reserved_at true tokens) _ x read in
    subst (λ (y : Option Heading × Place). IsEnumItem custom tokens.left y.0 y.1.left) (same_ok _ x r.2)
    (enums-reserved (reserved_found true _ _ r.1)))
    (λ no_reserved read.
    let v = bind_ok (value_at custom tokens) _ x read in
    subst (λ (y : Option Heading × Place). IsEnumItem custom tokens.left y.0 y.1.left) (same_ok _ x v.2)
    (enums-value no_semicolon no_option no_reserved (value_found custom _ _ v.1)))))

pub enum_found : (custom : CustomOptions) (tokens : Place) (x : Enum × Place)
    → enum_at custom tokens ≡ Ok x → IsEnum custom tokens.left x.0 x.1.left
unfolding enum_at enum_items_at
enum_found custom tokens x e =
    let h = bind_ok (heading_at (codes "enum") tokens) _ x e in
    let i = bind_ok (until_at closes (adding (enum_item_at custom)) [] h.0.1) _ x h.2 in
    let c = bind_ok (token_that (of_kind CloseBrace) i.0.1) _ x i.2 in
    subst (λ (y : Enum × Place). IsEnum custom tokens.left y.0 y.1.left) (same_ok _ x c.2)
    (enum (heading_found (codes "enum") _ _ h.1)
    (until_at-found closes (adding (enum_item_at custom)) (Adds (IsEnumItem custom))
    (adding-found (enum_item_at custom) (IsEnumItem custom) (enum_item_found custom)) [] h.0.1 i.0 i.1)
    (token_found _ _ c.1))

-- what the readers of what is inside find is what is inside
abbrev pub Finds : {A : Type 0} → Read A → (List Lexeme → A → List Lexeme → Type 0) → Type 0
Finds {A} read Is = (tokens : Place) (x : A × Place) → read tokens ≡ Ok x → Is tokens.left x.0 x.1.left

-- the same of what is in a message or a group
abbrev pub FindsInside : Inside → (List Lexeme → List Item → List Lexeme → Type 0) → Type 0
FindsInside None Inner = Unit {0}
FindsInside (Some read) Inner = Finds read Inner

braced_found : (item : Read (Option Item)) (Is : List Lexeme → Option Item → List Lexeme → Type 0) → Finds item Is
    → Finds (braced_at item) (IsBraced Is)
unfolding braced_at
braced_found item Is finds tokens x e =
    let i = bind_ok (until_at closes (adding item) [] tokens) _ x e in
    let c = bind_ok (token_that (of_kind CloseBrace) i.0.1) _ x i.2 in
    subst (λ (y : List Item × Place). IsBraced Is tokens.left y.0 y.1.left) (same_ok _ x c.2)
    (braced (until_at-found closes (adding item) (Adds Is) (adding-found item Is finds) [] tokens i.0 i.1)
    (token_found _ _ c.1))

group_found : (custom : CustomOptions) (inner : Inside)
    (Inner : List Lexeme → List Item → List Lexeme → Type 0) → FindsInside inner Inner → (first : Span)
    (label : Option Label)
    → Finds (group_at custom inner first label) (IsGroup custom Inner first label)
unfolding group_at
group_found custom None Inner finds first label tokens x e =
    absurd (let no : Err (TooDeep first.start) ≡ read_as x = e in cc)
group_found custom (Some inner) Inner finds first label tokens x e =
    let g = bind_ok (group_head_at custom first label tokens) _ x e in
    let i = bind_ok (inner g.0.1) _ x g.2 in
    subst (λ (y : BlockTree × Place). IsGroup custom Inner first label tokens.left y.0 y.1.left) (same_ok _ x i.2)
    (group (group_head_found custom first label _ _ g.1) (finds _ _ i.1))

labelled_found : (syntax : Syntax) (inner : Inside) (Inner : List Lexeme → List Item → List Lexeme → Type 0)
    → FindsInside inner Inner → (first : Span) (label : Option Label)
    → Finds (labelled_at syntax inner first label) (IsLabelled syntax Inner first label)
unfolding labelled_at
labelled_found syntax inner Inner finds first label tokens x e =
    chosen (is_proto2 syntax && begins_group tokens.left) {z = Ok x} e
    (λ is read.
    let g = bind_ok (group_at (custom_of syntax) inner first label tokens) _ x read in
    subst (λ (y : Item × Place). IsLabelled syntax Inner first label tokens.left y.0 y.1.left) (same_ok _ x g.2)
    (labelled-group is (group_found (custom_of syntax) inner Inner finds first label _ _ g.1)))
    (λ is_none read.
    let f = bind_ok (typed_at (custom_of syntax) first label tokens) _ x read in
    subst (λ (y : Item × Place). IsLabelled syntax Inner first label tokens.left y.0 y.1.left) (same_ok _ x f.2)
    (labelled-field is_none (typed_found (custom_of syntax) first label _ _ f.1)))

member_by_found : (syntax : Syntax) (inner : Inside) (Inner : List Lexeme → List Item → List Lexeme → Type 0)
    → FindsInside inner Inner → (left : List Lexeme) (end : ℕ) (x : Item × Place)
    → member_at syntax inner (place_of end left) ≡ Ok x → IsMember syntax Inner left x.0 x.1.left
unfolding member_at span_at
member_by_found syntax inner Inner finds [] end x e = cc
member_by_found syntax inner Inner finds (t ∷ rest) end x e =
    let l = bind_ok (label_at syntax (place_of end (t ∷ rest))) _ x e in
    member (label_found syntax _ _ l.1) (labelled_found syntax inner Inner finds t.span l.0.0 _ _ l.2)

member_found : (syntax : Syntax) (inner : Inside) (Inner : List Lexeme → List Item → List Lexeme → Type 0)
    → FindsInside inner Inner → Finds (member_at syntax inner) (IsMember syntax Inner)
member_found syntax inner Inner finds tokens x e = member_by_found syntax inner Inner finds tokens.left tokens.end x e

oneof_member_by_found : (syntax : Syntax) (inner : Inside) (Inner : List Lexeme → List Item → List Lexeme → Type 0)
    → FindsInside inner Inner → (left : List Lexeme) (end : ℕ) (x : Item × Place)
    → oneof_member_at syntax inner (place_of end left) ≡ Ok x → IsOneofMember syntax Inner left x.0 x.1.left
unfolding oneof_member_at span_at
oneof_member_by_found syntax inner Inner finds [] end x e = cc
oneof_member_by_found syntax inner Inner finds (t ∷ rest) end x e =
    oneof_member (labelled_found syntax inner Inner finds t.span None (place_of end (t ∷ rest)) _ e)

oneof_member_found : (syntax : Syntax) (inner : Inside) (Inner : List Lexeme → List Item → List Lexeme → Type 0)
    → FindsInside inner Inner → Finds (oneof_member_at syntax inner) (IsOneofMember syntax Inner)
oneof_member_found syntax inner Inner finds tokens x e =
    oneof_member_by_found syntax inner Inner finds tokens.left tokens.end x e

oneof_item_found : (syntax : Syntax) (inner : Inside) (Inner : List Lexeme → List Item → List Lexeme → Type 0)
    → FindsInside inner Inner → Finds (oneof_item_at syntax inner) (IsOneofItem syntax Inner)
unfolding oneof_item_at
oneof_item_found syntax inner Inner finds tokens x e =
    chosen (first_is (of_kind Semicolon) tokens.left) {z = Ok x} e
    (λ is read. subst (λ (y : Option Item × Place). IsOneofItem syntax Inner tokens.left y.0 y.1.left)
    (same_ok _ x read)
    (oneofs-empty (next_found tokens.left is).1))
    (λ no_semicolon read. chosen (first_is (is_word (codes "option")) tokens.left) {z = Ok x} read
    (λ _ read.
    let o = bind_ok (option_at (custom_of syntax) tokens) _ x read in
    subst (λ (y : Option Item × Place). IsOneofItem syntax Inner tokens.left y.0 y.1.left) (same_ok _ x o.2)
    (oneofs-option (option_found (custom_of syntax) _ _ o.1)))
    (λ no_option read.
    let m = bind_ok (oneof_member_at syntax inner tokens) _ x read in
    subst (λ (y : Option Item × Place). IsOneofItem syntax Inner tokens.left y.0 y.1.left) (same_ok _ x m.2)
    (oneofs-member no_semicolon no_option (oneof_member_found syntax inner Inner finds _ _ m.1))))

extend_item_found : (syntax : Syntax) (inner : Inside)
    (Inner : List Lexeme → List Item → List Lexeme → Type 0)
    → FindsInside inner Inner → Finds (extend_item_at syntax inner) (IsExtendItem syntax Inner)
unfolding extend_item_at
extend_item_found syntax inner Inner finds tokens x e =
    chosen (first_is (of_kind Semicolon) tokens.left) {z = Ok x} e
    (λ is read. subst (λ (y : Option Item × Place). IsExtendItem syntax Inner tokens.left y.0 y.1.left)
    (same_ok _ x read)
    (extends-empty (next_found tokens.left is).1))
    (λ no_semicolon read.
    let m = bind_ok (member_at syntax inner tokens) _ x read in
    subst (λ (y : Option Item × Place). IsExtendItem syntax Inner tokens.left y.0 y.1.left) (same_ok _ x m.2)
    (extends-member no_semicolon (member_found syntax inner Inner finds _ _ m.1)))

oneof_found : (syntax : Syntax) (inner : Inside) (Inner : List Lexeme → List Item → List Lexeme → Type 0)
    → FindsInside inner Inner → Finds (oneof_at syntax inner) (IsOneof syntax Inner)
unfolding oneof_at
oneof_found syntax inner Inner finds tokens x e =
    let h = bind_ok (heading_at (codes "oneof") tokens) _ x e in
    let i = bind_ok (braced_at (oneof_item_at syntax inner) h.0.1) _ x h.2 in
    subst (λ (y : BlockTree × Place). IsOneof syntax Inner tokens.left y.0 y.1.left) (same_ok _ x i.2)
    (oneof (heading_found (codes "oneof") _ _ h.1)
    (braced_found (oneof_item_at syntax inner) (IsOneofItem syntax Inner) (oneof_item_found syntax inner Inner finds) _
    _ i.1))

extend_found : (syntax : Syntax) (inner : Inside) (Inner : List Lexeme → List Item → List Lexeme → Type 0)
    → FindsInside inner Inner → Finds (extend_at syntax inner) (IsExtend syntax Inner)
unfolding extend_at
extend_found syntax inner Inner finds tokens x e =
    let k = bind_ok (token_that (is_word (codes "extend")) tokens) _ x e in
    let n = bind_ok (named_type_at k.0.1) _ x k.2 in
    let o = bind_ok (token_that (of_kind OpenBrace) n.0.1) _ x n.2 in
    let i = bind_ok (braced_at (extend_item_at syntax inner) o.0.1) _ x o.2 in
    let name = named_type_found _ _ n.1 in
    subst (λ (y : BlockTree × Place). IsExtend syntax Inner tokens.left y.0 y.1.left) (same_ok _ x i.2)
    (extend (token_found _ _ k.1) name.0 name.1 (token_found _ _ o.1)
    (braced_found (extend_item_at syntax inner) (IsExtendItem syntax Inner)
    (extend_item_found syntax inner Inner finds) _ _ i.1))

pub passed_item_found : (tokens : Place) (x : Unit {0} × Place) → passed_item_at tokens ≡ Ok x
    → IsPassedItem tokens.left x.1.left
unfolding passed_item_at
passed_item_found tokens x e =
    chosen (first_is (of_kind Semicolon) tokens.left) {z = Ok x} e
    (λ is read. subst (λ (y : Place). IsPassedItem tokens.left y.left) (left_of x read)
    (passes-empty (next_found tokens.left is).1))
    (λ no_semicolon read. passes-field no_semicolon (pass_field_found Skip _ _ read).1)

pub passed_extend_found : (custom : CustomOptions) (tokens : Place) (x : Unit {0} × Place)
    → passed_extend_at custom tokens ≡ Ok x → IsPassedExtend custom tokens.left x.1.left
unfolding passed_extend_at passed_items_at
passed_extend_found Refuse tokens x e =
    absurd (let no : Err (fault.Extend (offset_at tokens)) ≡ read_as x = e in cc)
passed_extend_found Skip tokens x e =
    let k = bind_ok (token_that (is_word (codes "extend")) tokens) _ x e in
    let n = bind_ok (pass_type_name_at k.0.1) _ x k.2 in
    let o = bind_ok (token_that (of_kind OpenBrace) n.0.1) _ x n.2 in
    let i = bind_ok (until_at closes (passing passed_item_at) tt o.0.1) _ x o.2 in
    let c = bind_ok (token_that (of_kind CloseBrace) i.0.1) _ x i.2 in
    subst (λ (y : Place). IsPassedExtend Skip tokens.left y.left) (left_of x c.2)
    (passed_extend (token_found _ _ k.1) (pass_type_name_found _ _ n.1).1 (token_found _ _ o.1)
    (until_at-found closes (passing passed_item_at) (Passes IsPassedItem)
    (passing-found passed_item_at IsPassedItem passed_item_found) tt o.0.1 i.0 i.1)
    (token_found _ _ c.1))

pub extend_statement_found : (syntax : Syntax) (inner : Inside)
    (Inner : List Lexeme → List Item → List Lexeme → Type 0)
    → FindsInside inner Inner → Finds (extend_statement_at syntax inner) (IsExtendStatement Inner syntax)
unfolding extend_statement_at
extend_statement_found (Proto3 custom) inner Inner finds tokens x e =
    let p = bind_ok (passed_extend_at custom tokens) _ x e in
    subst (λ (y : Option BlockTree × Place). IsExtendStatement Inner (Proto3 custom) tokens.left y.0 y.1.left)
    (same_ok _ x p.2) (passed (passed_extend_found custom _ _ p.1))
extend_statement_found Extended inner Inner finds tokens x e =
    let m = bind_ok (extend_at Extended inner tokens) _ x e in
    subst (λ (y : Option BlockTree × Place). IsExtendStatement Inner Extended tokens.left y.0 y.1.left)
    (same_ok _ x m.2)
    (kept refl (extend_found Extended inner Inner finds _ _ m.1))
extend_statement_found Proto2 inner Inner finds tokens x e =
    let m = bind_ok (extend_at Proto2 inner tokens) _ x e in
    subst (λ (y : Option BlockTree × Place). IsExtendStatement Inner Proto2 tokens.left y.0 y.1.left) (same_ok _ x m.2)
    (kept refl (extend_found Proto2 inner Inner finds _ _ m.1))

pub message_found : (inner : Inside) (Inner : List Lexeme → List Item → List Lexeme → Type 0)
    → FindsInside inner Inner → Finds (message_at inner) (IsMessage Inner)
unfolding message_at
message_found None Inner finds tokens x e =
    absurd (let no : Err (TooDeep (offset_at tokens)) ≡ read_as x = e in cc)
message_found (Some inner) Inner finds tokens x e =
    let h = bind_ok (heading_at (codes "message") tokens) _ x e in
    let i = bind_ok (inner h.0.1) _ x h.2 in
    subst (λ (y : BlockTree × Place). IsMessage Inner tokens.left y.0 y.1.left) (same_ok _ x i.2)
    (message (heading_found (codes "message") _ _ h.1) (finds _ _ i.1))

item_by_found : (syntax : Syntax) (inner : Inside) (Inner : List Lexeme → List Item → List Lexeme → Type 0)
    → FindsInside inner Inner → (tokens : Place) (x : Option Item × Place) (statement : MessageStatement)
    → message_statement_of syntax tokens.left ≡ statement
    → message_item_by statement syntax inner tokens ≡ Ok x → IsMessageItem syntax Inner tokens.left x.0 x.1.left
unfolding ranges_at
item_by_found syntax inner Inner finds tokens x choice.Empty is e =
    let m = bind_ok (token_that (of_kind Semicolon) tokens) _ x e in
    subst (λ (y : Option Item × Place). IsMessageItem syntax Inner tokens.left y.0 y.1.left) (same_ok _ x m.2)
    (items-empty (token_found _ _ m.1))
item_by_found syntax inner Inner finds tokens x choice.Message is e =
    let m = bind_ok (message_at inner tokens) _ x e in
    subst (λ (y : Option Item × Place). IsMessageItem syntax Inner tokens.left y.0 y.1.left) (same_ok _ x m.2)
    (items-message (message_found inner Inner finds _ _ m.1))
item_by_found syntax inner Inner finds tokens x choice.Enum is e =
    let m = bind_ok (enum_at (custom_of syntax) tokens) _ x e in
    subst (λ (y : Option Item × Place). IsMessageItem syntax Inner tokens.left y.0 y.1.left) (same_ok _ x m.2)
    (items-enum (enum_found (custom_of syntax) _ _ m.1))
item_by_found syntax inner Inner finds tokens x choice.Option is e =
    let m = bind_ok (option_at (custom_of syntax) tokens) _ x e in
    subst (λ (y : Option Item × Place). IsMessageItem syntax Inner tokens.left y.0 y.1.left) (same_ok _ x m.2)
    (items-option (option_found (custom_of syntax) _ _ m.1))
item_by_found syntax inner Inner finds tokens x choice.Oneof is e =
    let m = bind_ok (oneof_at syntax inner tokens) _ x e in
    subst (λ (y : Option Item × Place). IsMessageItem syntax Inner tokens.left y.0 y.1.left) (same_ok _ x m.2)
    (items-oneof (oneof_found syntax inner Inner finds _ _ m.1))
item_by_found syntax inner Inner finds tokens x choice.Map is e =
    let m = bind_ok (map_field_at (custom_of syntax) tokens) _ x e in
    subst (λ (y : Option Item × Place). IsMessageItem syntax Inner tokens.left y.0 y.1.left) (same_ok _ x m.2)
    (items-map_field (map_field_found (custom_of syntax) _ _ m.1))
item_by_found syntax inner Inner finds tokens x choice.Reserved is e =
    let m = bind_ok (reserved_at false tokens) _ x e in
    subst (λ (y : Option Item × Place). IsMessageItem syntax Inner tokens.left y.0 y.1.left) (same_ok _ x m.2)
    (items-reserved (reserved_found false _ _ m.1))
item_by_found syntax inner Inner finds tokens x choice.Extend is e =
    let m = bind_ok (extend_statement_at syntax inner tokens) _ x e in
    subst (λ (y : Option Item × Place). IsMessageItem syntax Inner tokens.left y.0 y.1.left) (same_ok _ x m.2)
    (items-extend (extend_statement_found syntax inner Inner finds _ _ m.1))
item_by_found syntax inner Inner finds tokens x choice.Extensions is e =
    let g = guard_ok (is_proto2 syntax) _ _ x e in
    let m = bind_ok (extensions_at (custom_of syntax) tokens) _ x g.1 in
    subst (λ (y : Option Item × Place). IsMessageItem syntax Inner tokens.left y.0 y.1.left) (same_ok _ x m.2)
    (items-extensions g.0 (extensions_found (custom_of syntax) _ _ m.1))
item_by_found syntax inner Inner finds tokens x choice.Member is e =
    let m = bind_ok (member_at syntax inner tokens) _ x e in
    subst (λ (y : Option Item × Place). IsMessageItem syntax Inner tokens.left y.0 y.1.left) (same_ok _ x m.2)
    (items-member (member_next syntax tokens.left is) (member_found syntax inner Inner finds _ _ m.1))

message_item_found : (syntax : Syntax) (inner : Inside)
    (Inner : List Lexeme → List Item → List Lexeme → Type 0)
    → FindsInside inner Inner → Finds (message_item_at syntax inner) (IsMessageItem syntax Inner)
unfolding message_item_at
message_item_found syntax inner Inner finds tokens x e =
    item_by_found syntax inner Inner finds tokens x (message_statement_of syntax tokens.left) refl e

pub inside_found : (syntax : Syntax) (levels : ℕ) → FindsInside (inside_at syntax levels) (IsInside syntax levels)
unfolding inside_at IsInside
inside_found syntax zero = tt
inside_found syntax (suc levels) =
    braced_found (message_item_at syntax (inside_at syntax levels))
    (IsMessageItem syntax (IsInside syntax levels))
    (message_item_found syntax (inside_at syntax levels) (IsInside syntax levels) (inside_found syntax levels))

stream_found : (tokens : Place) (x : Unit {0} × Place) → stream_at tokens ≡ Ok x → IsStream tokens.left x.1.left
unfolding stream_at
stream_found tokens x e =
    chosen (first_is (is_word (codes "stream")) tokens.left) {z = Ok x} e
    (λ is read. subst (λ (y : Place). IsStream tokens.left y.left) (left_of x read)
    (stream (next_found tokens.left is).1))
    (λ not read. subst (λ (y : Place). IsStream tokens.left y.left) (left_of x read) (no_stream not))

method_type_found : (tokens : Place) (x : TypeName × Place) → method_type_at tokens ≡ Ok x
    → IsMethodType tokens.left x.0 x.1.left
unfolding method_type_at
method_type_found tokens x e =
    let o = bind_ok (token_that (of_kind OpenParenthesis) tokens) _ x e in
    let s = bind_ok (stream_at o.0.1) _ x o.2 in
    let n = bind_ok (named_type_at s.0.1) _ x s.2 in
    let c = bind_ok (token_that (of_kind CloseParenthesis) n.0.1) _ x n.2 in
    let name = named_type_found _ _ n.1 in
    subst (λ (y : TypeName × Place). IsMethodType tokens.left y.0 y.1.left) (same_ok _ x c.2)
    (method_type (token_found _ _ o.1) (stream_found _ _ s.1) name.0 name.1 (token_found _ _ c.1))

pub method_item_found : (custom : CustomOptions) (tokens : Place) (x : Unit {0} × Place)
    → method_item_at custom tokens ≡ Ok x → IsMethodItem custom tokens.left x.1.left
unfolding method_item_at
method_item_found custom tokens x e =
    chosen (first_is (of_kind Semicolon) tokens.left) {z = Ok x} e
    (λ is read. subst (λ (y : Place). IsMethodItem custom tokens.left y.left) (left_of x read)
    (method_items-empty (next_found tokens.left is).1))
    (λ _ read. method_items-option (option_found custom _ _ read))

method_end_found : (custom : CustomOptions) (tokens : Place) (x : Span × Place)
    → method_end_at custom tokens ≡ Ok x → IsMethodEnd custom tokens.left x.0 x.1.left
unfolding method_end_at method_body_at method_items_at
method_end_found custom tokens x e =
    chosen (first_is (of_kind Semicolon) tokens.left) {z = Ok x} e
    (λ _ read. semicolon (token_found _ _ read))
    (λ _ read.
    let o = bind_ok (token_that (of_kind OpenBrace) tokens) _ x read in
    let i = bind_ok (until_at closes (passing (method_item_at custom)) tt o.0.1) _ x o.2 in
    let c = bind_ok (token_that (of_kind CloseBrace) i.0.1) _ x i.2 in
    subst (λ (y : Span × Place). IsMethodEnd custom tokens.left y.0 y.1.left) (same_ok _ x c.2)
    (body (token_found _ _ o.1)
    (until_at-found closes (passing (method_item_at custom)) (Passes (IsMethodItem custom))
    (passing-found (method_item_at custom) (IsMethodItem custom) (method_item_found custom)) tt o.0.1 i.0 i.1)
    (token_found _ _ c.1)))

method_found : (custom : CustomOptions) (tokens : Place) (x : Method × Place)
    → method_at custom tokens ≡ Ok x → IsMethod custom tokens.left x.0 x.1.left
unfolding method_at
method_found custom tokens x e =
    let f = bind_ok (token_that (is_word (codes "rpc")) tokens) _ x e in
    let n = bind_ok (token_that (of_kind Identifier) f.0.1) _ x f.2 in
    let i = bind_ok (method_type_at n.0.1) _ x n.2 in
    let r = bind_ok (token_that (is_word (codes "returns")) i.0.1) _ x i.2 in
    let o = bind_ok (method_type_at r.0.1) _ x r.2 in
    let c = bind_ok (method_end_at custom o.0.1) _ x o.2 in
    subst (λ (y : Method × Place). IsMethod custom tokens.left y.0 y.1.left) (same_ok _ x c.2)
    (method (token_found _ _ f.1) (token_found _ _ n.1) (method_type_found _ _ i.1) (token_found _ _ r.1)
    (method_type_found _ _ o.1) (method_end_found custom _ _ c.1))

pub service_item_found : (custom : CustomOptions) (tokens : Place) (x : Option Method × Place)
    → service_item_at custom tokens ≡ Ok x → IsServiceItem custom tokens.left x.0 x.1.left
unfolding service_item_at
service_item_found custom tokens x e =
    chosen (first_is (of_kind Semicolon) tokens.left) {z = Ok x} e
    (λ is read. subst (λ (y : Option Method × Place). IsServiceItem custom tokens.left y.0 y.1.left) (same_ok _ x read)
    (services-empty (next_found tokens.left is).1))
    (λ _ read. chosen (first_is (is_word (codes "option")) tokens.left) {z = Ok x} read
    (λ _ read.
    let o = bind_ok (option_at custom tokens) _ x read in
    subst (λ (y : Option Method × Place). IsServiceItem custom tokens.left y.0 y.1.left) (same_ok _ x o.2)
    (services-option (option_found custom _ _ o.1)))
    (λ _ read.
    let m = bind_ok (method_at custom tokens) _ x read in
    subst (λ (y : Option Method × Place). IsServiceItem custom tokens.left y.0 y.1.left) (same_ok _ x m.2)
    (services-method (method_found custom _ _ m.1))))

pub service_found : (custom : CustomOptions) (tokens : Place) (x : Service × Place)
    → service_at custom tokens ≡ Ok x → IsService custom tokens.left x.0 x.1.left
unfolding service_at service_items_at
service_found custom tokens x e =
    let h = bind_ok (heading_at (codes "service") tokens) _ x e in
    let i = bind_ok (until_at closes (adding (service_item_at custom)) [] h.0.1) _ x h.2 in
    let c = bind_ok (token_that (of_kind CloseBrace) i.0.1) _ x i.2 in
    subst (λ (y : Service × Place). IsService custom tokens.left y.0 y.1.left) (same_ok _ x c.2)
    (service (heading_found (codes "service") _ _ h.1)
    (until_at-found closes (adding (service_item_at custom)) (Adds (IsServiceItem custom))
    (adding-found (service_item_at custom) (IsServiceItem custom) (service_item_found custom)) [] h.0.1 i.0 i.1)
    (token_found _ _ c.1))
