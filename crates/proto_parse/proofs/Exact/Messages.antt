-- What is in the grammar is read: enums, messages, groups, oneofs, extends and services.
use Rattle.std.proofs.Common.{◌≡◌, ℕ, zero, suc, true, false, Option, Some, None, List, ◌∷◌, refl, sym, subst}
use Rattle.std.proofs.Common.{codes}
use Rattle.proto_lex.specs.declared.span.Span.{Span}
use Rattle.proto_lex.specs.declared.token.TokenKind.TheVariants.{Identifier, Semicolon, OpenBrace}
use Rattle.proto_grammar.specs.declared.dialect.CustomOptions.{CustomOptions}
use Rattle.proto_grammar.specs.declared.dialect.Syntax.{Syntax}
use Rattle.proto_grammar.specs.declared.dialect.Syntax.TheVariants.{Proto3, Extended, Proto2}
use Rattle.proto_grammar.specs.declared.tree.Heading.{Heading}
use Rattle.proto_grammar.specs.declared.tree.Label.{Label}
use Rattle.proto_grammar.specs.declared.tree.TypeName.{TypeName}
use Rattle.proto_grammar.specs.declared.tree.Enum.{Enum}
use Rattle.proto_grammar.specs.declared.tree.Method.{Method}
use Rattle.proto_grammar.specs.declared.tree.Service.{Service}
use Rattle.proto_grammar.specs.declared.tree.Item.{Item}
use Rattle.proto_steps.specs.declared.statement.MessageStatement.{MessageStatement}
use Rattle.proto_steps.specs.declared.statement.MessageStatement.TheVariants as choice
use Rattle.proto_steps.specs.declared.statement.Within.{Within}
use Rattle.proto_steps.specs.declared.statement.Within.TheVariants as within
use Rattle.proto_grammar.specs.Lexeme.{Lexeme}
use Rattle.proto_grammar.specs.Terminal.{first_is, of_kind, is_word, closes}
use Rattle.proto_grammar.specs.Syntax.{custom_of}
use Rattle.proto_steps.specs.Choice.{message_statement_of}
use Rattle.proto_grammar.specs.Grammar.Repetition.{Passes, Adds}
use Rattle.proto_parse.specs.Grammar.Messages.{IsHeading, IsValue, IsEnumItem, IsEnum, IsBraced, IsGroup, IsLabelled}
use Rattle.proto_parse.specs.Grammar.Messages.{IsMember, IsOneofMember, IsOneofItem, IsOneof, IsExtendItem, IsExtend}
use Rattle.proto_parse.specs.Grammar.Messages.{IsPassedItem, IsPassedExtend, IsExtendStatement, IsMessage}
use Rattle.proto_parse.specs.Grammar.Messages.{IsMessageItem, IsInside}
use Rattle.proto_parse.specs.Grammar.Messages.IsHeading.{heading}
use Rattle.proto_parse.specs.Grammar.Messages.IsValue.{value}
use Rattle.proto_parse.specs.Grammar.Messages.IsEnumItem.{empty as enums-empty, option as enums-option}
use Rattle.proto_parse.specs.Grammar.Messages.IsEnumItem.{reserved as enums-reserved, value as enums-value}
use Rattle.proto_parse.specs.Grammar.Messages.IsEnum.{enum}
use Rattle.proto_parse.specs.Grammar.Messages.IsBraced.{braced}
use Rattle.proto_parse.specs.Grammar.Messages.IsGroup.{group}
use Rattle.proto_parse.specs.Grammar.Messages.IsLabelled.{field as labelled-field, group as labelled-group}
use Rattle.proto_parse.specs.Grammar.Messages.IsMember.{member}
use Rattle.proto_parse.specs.Grammar.Messages.IsOneofMember.{oneof_member}
use Rattle.proto_parse.specs.Grammar.Messages.IsOneofItem.{empty as oneofs-empty, option as oneofs-option}
use Rattle.proto_parse.specs.Grammar.Messages.IsOneofItem.{member as oneofs-member}
use Rattle.proto_parse.specs.Grammar.Messages.IsOneof.{oneof}
use Rattle.proto_parse.specs.Grammar.Messages.IsExtendItem.{empty as extends-empty, member as extends-member}
use Rattle.proto_parse.specs.Grammar.Messages.IsExtend.{extend}
use Rattle.proto_parse.specs.Grammar.Messages.IsPassedItem.{empty as passes-empty, field as passes-field}
use Rattle.proto_parse.specs.Grammar.Messages.IsPassedExtend.{passed_extend}
use Rattle.proto_parse.specs.Grammar.Messages.IsExtendStatement.{kept, passed}
use Rattle.proto_parse.specs.Grammar.Messages.IsMessage.{message}
use Rattle.proto_parse.specs.Grammar.Messages.IsMessageItem.{empty as items-empty, message as items-message}
use Rattle.proto_parse.specs.Grammar.Messages.IsMessageItem.{enum as items-enum, option as items-option}
use Rattle.proto_parse.specs.Grammar.Messages.IsMessageItem.{oneof as items-oneof, map_field as items-map_field}
use Rattle.proto_parse.specs.Grammar.Messages.IsMessageItem.{reserved as items-reserved, extend as items-extend}
use Rattle.proto_parse.specs.Grammar.Messages.IsMessageItem.{extensions as items-extensions, member as items-member}
use Rattle.proto_parse.specs.Grammar.Services.{IsStream, IsMethodType, IsMethodItem, IsMethodEnd, IsMethod}
use Rattle.proto_parse.specs.Grammar.Services.{IsServiceItem, IsService}
use Rattle.proto_parse.specs.Grammar.Services.IsStream.{stream, no_stream}
use Rattle.proto_parse.specs.Grammar.Services.IsMethodType.{method_type}
use Rattle.proto_parse.specs.Grammar.Services.IsMethodItem.{empty as method_items-empty, option as method_items-option}
use Rattle.proto_parse.specs.Grammar.Services.IsMethodEnd.{semicolon, body}
use Rattle.proto_parse.specs.Grammar.Services.IsMethod.{method}
use Rattle.proto_parse.specs.Grammar.Services.IsServiceItem.{empty as services-empty, option as services-option}
use Rattle.proto_parse.specs.Grammar.Services.IsServiceItem.{method as services-method}
use Rattle.proto_parse.specs.Grammar.Services.IsService.{service}
use Rattle.proto_grammar.specs.Reading.Repetition.{Read, span_at, adding, passing}
use Rattle.proto_parse.proofs.Reading.Messages.{braced_at}
use Rattle.proto_parse.proofs.Reading.Messages.{group_at, labelled_at, member_at, oneof_member_at, oneof_item_at}
use Rattle.proto_parse.proofs.Reading.Messages.{extend_item_at, oneof_at, extend_at, passed_item_at, passed_items_at}
use Rattle.proto_parse.proofs.Reading.Messages.{passed_extend_at, extend_statement_at, message_at, ranges_at}
use Rattle.proto_parse.proofs.Reading.Messages.{message_item_by, message_item_at, item_at, inside_at}
use Rattle.proto_parse.proofs.Reading.Enums.{heading_at, enum_at, value_at, enum_item_at, enum_items_at}
use Rattle.proto_parse.proofs.Reading.Services.{stream_at, method_type_at, method_item_at, method_items_at}
use Rattle.proto_parse.proofs.Reading.Services.{method_body_at, method_end_at, method_at, service_item_at}
use Rattle.proto_parse.proofs.Reading.Services.{service_items_at, service_at}
use Rattle.proto_grammar.proofs.TerminalTokenLemmas.{token_exact, one_next, one_others, next_other_kind, next_word_kind}
use Rattle.proto_grammar.proofs.TerminalTokenLemmas.{next_other_word}
use Rattle.proto_grammar.proofs.RepetitionUntilLemmas.{until_at-exact, adding-exact, passing-exact, Falls}
use Rattle.proto_parse.proofs.Choices.{message_word, map_chosen, member_chosen, message_begins, enum_begins}
use Rattle.proto_parse.proofs.Choices.{option_begins, oneof_begins, reserved_begins, method_begins, extend_begins}
use Rattle.proto_parse.proofs.Choices.{extensions_begins}
use Rattle.proto_parse.proofs.ReadingFallLemmas.{enum_items_fall, passed_items_fall, items_fall}
use Rattle.proto_parse.proofs.ReadingFallLemmas.{method_items_fall, service_items_fall}
use Rattle.proto_grammar.proofs.Exact.Names.{named_type_exact, pass_type_name_exact}
use Rattle.proto_grammar.proofs.Exact.Options.{option_exact, options_exact}
use Rattle.proto_grammar.proofs.Exact.Fields.{typed_exact, label_exact, group_head_exact, map_field_exact}
use Rattle.proto_grammar.proofs.Exact.Fields.{pass_field_exact, integer_exact, reserved_exact, extensions_exact}
use Rattle.proto_parse.proofs.Reading.Messages.{Inside}
use Rattle.std.proofs.Common.{Ok}
use Rattle.proto_grammar.specs.Lexeme.{place_of}

module _ (end : ℕ) where
  heading_exact : {word : List ℕ} {a b : List Lexeme} {x : Heading} → IsHeading word a x b
      → heading_at word (place_of end a) ≡ Ok (x, place_of end b)
  unfolding heading_at
  heading_exact (heading f n c) = rw (token_exact end f, token_exact end n, token_exact end c) refl

  value_exact : {custom : CustomOptions} {a b : List Lexeme} {x : Heading} → IsValue custom a x b
      → value_at custom (place_of end a) ≡ Ok (x, place_of end b)
  unfolding value_at
  value_exact (value n q i o s) = rw (
    token_exact end n,
    token_exact end q,
    integer_exact end i,
    options_exact end o,
    token_exact end s,
  ) refl

  -- a word is no `;`
  word_no_semicolon : (word : List ℕ) (a : List Lexeme) → first_is (is_word word) a ≡ true
      → first_is (of_kind Semicolon) a ≡ false
  word_no_semicolon word a is = next_other_kind Identifier Semicolon a refl (next_word_kind word a is)

  enum_item_exact : (custom : CustomOptions) (a b : List Lexeme) (x : Option Heading) → IsEnumItem custom a x b
      → enum_item_at custom (place_of end a) ≡ Ok (x, place_of end b)
  unfolding enum_item_at
  enum_item_exact custom a b x (enums-empty s) = rw (one_next s, one_others s) refl
  enum_item_exact custom a b x (enums-option o) =
      let is = option_begins o in rw (word_no_semicolon (codes "option") a is, is, option_exact end o) refl
  enum_item_exact custom a b x (enums-reserved r) =
      let is = reserved_begins r in
      rw (
        word_no_semicolon (codes "reserved") a is,
        next_other_word (codes "reserved") (codes "option") a refl is,
        is,
        reserved_exact end r,
      ) refl
  enum_item_exact custom a b x (enums-value p q r v) = rw (p, q, r, value_exact v) refl

  pub enum_exact : {custom : CustomOptions} {a b : List Lexeme} {x : Enum} → IsEnum custom a x b
      → enum_at custom (place_of end a) ≡ Ok (x, place_of end b)
  unfolding enum_at enum_items_at
  enum_exact {custom} (enum h u c) =
      rw (
        heading_exact h,
        until_at-exact end closes (adding (enum_item_at custom)) (Adds (IsEnumItem custom)) (enum_items_fall custom)
            (adding-exact end (enum_item_at custom) (IsEnumItem custom) (enum_item_exact custom)) u,
        token_exact end c,
      ) refl

  -- what is inside is read
  abbrev pub Reads : {A : Type 0} → Read A → (List Lexeme → A → List Lexeme → Type 0) → Type 0
  Reads {A} read Is = (a b : List Lexeme) (x : A) → Is a x b → read (place_of end a) ≡ Ok (x, place_of end b)

  -- the same of what is in a message or a group
  abbrev pub ReadsInside : Inside → (List Lexeme → List Item → List Lexeme → Type 0) → Type 0
  ReadsInside None Inner = (a b : List Lexeme) (x : List Item) → Inner a x b → ⊥
  ReadsInside (Some read) Inner = Reads read Inner

  braced_exact : (item : Read (Option Item)) (Is : List Lexeme → Option Item → List Lexeme → Type 0) → Reads item Is
      → Falls (adding item) → Reads (braced_at item) (IsBraced Is)
  unfolding braced_at
  braced_exact item Is reads falls a b x (braced u c) =
      rw (
        until_at-exact end closes (adding item) (Adds Is) falls (adding-exact end item Is reads) u,
        token_exact end
            c,
      ) refl

  group_exact : (custom : CustomOptions) (inner : Inside)
      (Inner : List Lexeme → List Item → List Lexeme → Type 0) → ReadsInside inner Inner → (first : Span)
      (label : Option Label)
      → Reads (group_at custom inner first label) (IsGroup custom Inner first label)
  unfolding group_at
  group_exact custom None Inner reads first label a c x (group {b = b} {items = items} g i) =
      absurd (reads b c items i)
  group_exact custom (Some inner) Inner reads first label a c x (group {b = b} {items = items} g i) =
      rw (group_head_exact end g, reads b c items i) refl

  labelled_exact : (syntax : Syntax) (inner : Inside) (Inner : List Lexeme → List Item → List Lexeme → Type 0)
      → ReadsInside inner Inner → (first : Span) (label : Option Label)
      → Reads (labelled_at syntax inner first label) (IsLabelled syntax Inner first label)
  unfolding labelled_at
  labelled_exact syntax inner Inner reads first label a b x (labelled-field is f) = rw (is, typed_exact end f) refl
  labelled_exact syntax inner Inner reads first label a b x (labelled-group {group = g} is i) =
      rw (is, group_exact (custom_of syntax) inner Inner reads first label a b g i) refl

  member_exact : (syntax : Syntax) (inner : Inside) (Inner : List Lexeme → List Item → List Lexeme → Type 0)
      → ReadsInside inner Inner → Reads (member_at syntax inner) (IsMember syntax Inner)
  unfolding member_at span_at
  member_exact syntax inner Inner reads a c x (member {t = t} {b = b} {label = label} l i) =
      rw (label_exact end l) (labelled_exact syntax inner Inner reads t.span label b c x i)

  oneof_member_exact : (syntax : Syntax) (inner : Inside)
      (Inner : List Lexeme → List Item → List Lexeme → Type 0)
      → ReadsInside inner Inner → Reads (oneof_member_at syntax inner) (IsOneofMember syntax Inner)
  unfolding oneof_member_at span_at
  oneof_member_exact syntax inner Inner reads a b x (oneof_member {t = t} {rest = rest} i) =
      labelled_exact syntax inner Inner reads t.span None (t ∷ rest) b x i

  oneof_item_exact : (syntax : Syntax) (inner : Inside) (Inner : List Lexeme → List Item → List Lexeme → Type 0)
      → ReadsInside inner Inner → Reads (oneof_item_at syntax inner) (IsOneofItem syntax Inner)
  unfolding oneof_item_at
  oneof_item_exact syntax inner Inner reads a b x (oneofs-empty s) = rw (one_next s, one_others s) refl
  oneof_item_exact syntax inner Inner reads a b x (oneofs-option o) =
      let is = option_begins o in rw (word_no_semicolon (codes "option") a is, is, option_exact end o) refl
  oneof_item_exact syntax inner Inner reads a b x (oneofs-member {item = i} p q m) =
      rw (p, q, oneof_member_exact syntax inner Inner reads a b i m) refl

  extend_item_exact : (syntax : Syntax) (inner : Inside)
      (Inner : List Lexeme → List Item → List Lexeme → Type 0)
      → ReadsInside inner Inner → Reads (extend_item_at syntax inner) (IsExtendItem syntax Inner)
  unfolding extend_item_at
  extend_item_exact syntax inner Inner reads a b x (extends-empty s) = rw (one_next s, one_others s) refl
  extend_item_exact syntax inner Inner reads a b x (extends-member {item = i} p m) =
      rw (p, member_exact syntax inner Inner reads a b i m) refl

  -- what is read falls between the braces of oneofs and extends
  abbrev AllFall : Syntax → Inside → Type 0
  AllFall syntax inner = (place : Within) → Falls (adding (item_at place syntax inner))

  oneof_exact : (syntax : Syntax) (inner : Inside) (Inner : List Lexeme → List Item → List Lexeme → Type 0)
      → ReadsInside inner Inner → AllFall syntax inner → Reads (oneof_at syntax inner) (IsOneof syntax Inner)
  unfolding oneof_at
  oneof_exact syntax inner Inner reads fall a c x (oneof {b = b} {items = items} h i) =
      rw (
        heading_exact h,
        braced_exact (oneof_item_at syntax inner) (IsOneofItem syntax Inner)
            (oneof_item_exact syntax inner Inner reads) (fall within.Oneof) b c items i,
      ) refl

  extend_exact : (syntax : Syntax) (inner : Inside) (Inner : List Lexeme → List Item → List Lexeme → Type 0)
      → ReadsInside inner Inner → AllFall syntax inner → Reads (extend_at syntax inner) (IsExtend syntax Inner)
  unfolding extend_at
  extend_exact syntax inner Inner reads fall a e x (extend {d = d} {items = items} k not n o i) =
      rw (
        token_exact end k,
        named_type_exact end not n,
        token_exact end o,
        braced_exact (extend_item_at syntax inner) (IsExtendItem syntax Inner)
            (extend_item_exact syntax inner Inner reads) (fall within.Extend) d e items i,
      ) refl

  passed_item_exact : (a b : List Lexeme) → IsPassedItem a b → passed_item_at (place_of end a) ≡ Ok (tt, place_of end b)
  unfolding passed_item_at
  passed_item_exact a b (passes-empty s) = rw (one_next s, one_others s) refl
  passed_item_exact a b (passes-field p f) = rw p (pass_field_exact end f)

  pub passed_extend_exact : {custom : CustomOptions} {a b : List Lexeme} → IsPassedExtend custom a b
      → passed_extend_at custom (place_of end a) ≡ Ok (tt, place_of end b)
  unfolding passed_extend_at passed_items_at
  passed_extend_exact (passed_extend k n o u c) =
      rw (
        token_exact end k,
        pass_type_name_exact end n,
        token_exact end o,
        until_at-exact end closes (passing passed_item_at) (Passes IsPassedItem) passed_items_fall
            (passing-exact end passed_item_at IsPassedItem passed_item_exact) u,
        token_exact end c,
      ) refl

  pub extend_statement_exact : (syntax : Syntax) (inner : Inside)
      (Inner : List Lexeme → List Item → List Lexeme → Type 0) → ReadsInside inner Inner → AllFall syntax inner
      → Reads (extend_statement_at syntax inner) (IsExtendStatement Inner syntax)
  unfolding extend_statement_at
  extend_statement_exact (Proto3 custom) inner Inner reads fall a b x (kept is e) = cc
  extend_statement_exact Extended inner Inner reads fall a b x (kept {extend = y} is e) =
      rw (extend_exact Extended inner Inner reads fall a b y e) refl
  extend_statement_exact Proto2 inner Inner reads fall a b x (kept {extend = y} is e) =
      rw (extend_exact Proto2 inner Inner reads fall a b y e) refl
  extend_statement_exact (Proto3 custom) inner Inner reads fall a b x (passed e) = rw (passed_extend_exact e) refl

  pub message_exact : (inner : Inside) (Inner : List Lexeme → List Item → List Lexeme → Type 0)
      → ReadsInside inner Inner → Reads (message_at inner) (IsMessage Inner)
  unfolding message_at
  message_exact None Inner reads a c x (message {b = b} {items = items} h i) = absurd (reads b c items i)
  message_exact (Some inner) Inner reads a c x (message {b = b} {items = items} h i) =
      rw (heading_exact h, reads b c items i) refl

  -- the item that is chosen
  by_choice : (syntax : Syntax) (inner : Inside) (a b : List Lexeme) (x : Option Item)
      (statement : MessageStatement) → message_statement_of syntax a ≡ statement
      → message_item_by statement syntax inner (place_of end a) ≡ Ok (x, place_of end b)
      → message_item_at syntax inner (place_of end a) ≡ Ok (x, place_of end b)
  unfolding message_item_at
  by_choice syntax inner a b x statement is read =
      subst (λ s. message_item_by s syntax inner (place_of end a) ≡ Ok (x, place_of end b)) (sym is) read

  message_item_exact : (syntax : Syntax) (inner : Inside)
      (Inner : List Lexeme → List Item → List Lexeme → Type 0) → ReadsInside inner Inner → AllFall syntax inner
      → Reads (message_item_at syntax inner) (IsMessageItem syntax Inner)
  unfolding ranges_at
  message_item_exact syntax inner Inner reads fall a b x (items-empty s) =
      by_choice syntax inner a b x choice.Empty (rw (one_next s) refl) (rw (token_exact end s) refl)
  message_item_exact syntax inner Inner reads fall a b x (items-message {message = m} i) =
      by_choice syntax inner a b x choice.Message (message_word syntax (codes "message") a (message_begins m i))
      (rw (message_exact inner Inner reads a b m i) refl)
  message_item_exact syntax inner Inner reads fall a b x (items-enum e) =
      by_choice syntax inner a b x choice.Enum (message_word syntax (codes "enum") a (enum_begins e))
      (rw (enum_exact e) refl)
  message_item_exact syntax inner Inner reads fall a b x (items-option o) =
      by_choice syntax inner a b x choice.Option (message_word syntax (codes "option") a (option_begins o))
      (rw (option_exact end o) refl)
  message_item_exact syntax inner Inner reads fall a b x (items-oneof {oneof = y} o) =
      by_choice syntax inner a b x choice.Oneof (message_word syntax (codes "oneof") a (oneof_begins y o))
      (rw (oneof_exact syntax inner Inner reads fall a b y o) refl)
  message_item_exact syntax inner Inner reads fall a b x (items-map_field f) =
      by_choice syntax inner a b x choice.Map (map_chosen syntax f) (rw (map_field_exact end f) refl)
  message_item_exact syntax inner Inner reads fall a b x (items-reserved r) =
      by_choice syntax inner a b x choice.Reserved (message_word syntax (codes "reserved") a (reserved_begins r))
      (rw (reserved_exact end r) refl)
  message_item_exact syntax inner Inner reads fall a b x (items-extend {extend = y} e) =
      by_choice syntax inner a b x choice.Extend (message_word syntax (codes "extend") a (extend_begins y e))
      (rw (extend_statement_exact syntax inner Inner reads fall a b y e) refl)
  message_item_exact syntax inner Inner reads fall a b x (items-extensions proto2 r) =
      by_choice syntax inner a b x choice.Extensions
      (message_word syntax (codes "extensions") a (extensions_begins r)) (rw (proto2, extensions_exact end r) refl)
  message_item_exact syntax inner Inner reads fall a b x (items-member {item = y} is m) =
      by_choice syntax inner a b x choice.Member (member_chosen syntax a is)
      (rw (member_exact syntax inner Inner reads a b y m) refl)

  pub inside_exact : (syntax : Syntax) (levels : ℕ) → ReadsInside (inside_at syntax levels) (IsInside syntax levels)
  unfolding inside_at IsInside
  inside_exact syntax zero = λ a b x i. absurd i
  inside_exact syntax (suc levels) =
      braced_exact (message_item_at syntax (inside_at syntax levels))
      (IsMessageItem syntax (IsInside syntax levels))
      (message_item_exact syntax (inside_at syntax levels) (IsInside syntax levels) (inside_exact syntax levels)
      (λ place. items_fall place syntax levels)) (items_fall within.Message syntax levels)

  stream_exact : {a b : List Lexeme} → IsStream a b → stream_at (place_of end a) ≡ Ok (tt, place_of end b)
  unfolding stream_at
  stream_exact (stream w) = rw (one_next w, one_others w) refl
  stream_exact (no_stream none_next) = rw none_next refl

  method_type_exact : {a b : List Lexeme} {x : TypeName} → IsMethodType a x b
      → method_type_at (place_of end a) ≡ Ok (x, place_of end b)
  unfolding method_type_at
  method_type_exact (method_type o s not n c) =
      rw (token_exact end o, stream_exact s, named_type_exact end not n, token_exact end c) refl

  pub method_item_exact : (custom : CustomOptions) (a b : List Lexeme) → IsMethodItem custom a b
      → method_item_at custom (place_of end a) ≡ Ok (tt, place_of end b)
  unfolding method_item_at
  method_item_exact custom a b (method_items-empty s) = rw (one_next s, one_others s) refl
  method_item_exact custom a b (method_items-option o) =
      rw (word_no_semicolon (codes "option") a (option_begins o)) (option_exact end o)

  method_end_exact : {custom : CustomOptions} {a b : List Lexeme} {x : Span} → IsMethodEnd custom a x b
      → method_end_at custom (place_of end a) ≡ Ok (x, place_of end b)
  unfolding method_end_at method_body_at method_items_at
  method_end_exact (semicolon s) = rw (one_next s) (token_exact end s)
  method_end_exact {custom} (body {a} o u c) =
      rw (
        next_other_kind OpenBrace Semicolon a refl (one_next o),
        token_exact end o,
        until_at-exact end closes (passing (method_item_at custom)) (Passes (IsMethodItem custom))
            (method_items_fall custom)
            (passing-exact end (method_item_at custom) (IsMethodItem custom) (method_item_exact custom)) u,
        token_exact end c,
      ) refl

  method_exact : {custom : CustomOptions} {a b : List Lexeme} {x : Method} → IsMethod custom a x b
      → method_at custom (place_of end a) ≡ Ok (x, place_of end b)
  unfolding method_at
  method_exact (method f n i r o c) =
      rw (
        token_exact end f,
        token_exact end n,
        method_type_exact i,
        token_exact end r,
        method_type_exact o,
        method_end_exact c,
      ) refl

  service_item_exact : (custom : CustomOptions) (a b : List Lexeme) (x : Option Method) → IsServiceItem custom a x b
      → service_item_at custom (place_of end a) ≡ Ok (x, place_of end b)
  unfolding service_item_at
  service_item_exact custom a b x (services-empty s) = rw (one_next s, one_others s) refl
  service_item_exact custom a b x (services-option o) =
      let is = option_begins o in rw (word_no_semicolon (codes "option") a is, is, option_exact end o) refl
  service_item_exact custom a b x (services-method m) =
      let is = method_begins m in
      rw (
        word_no_semicolon (codes "rpc") a is,
        next_other_word (codes "rpc") (codes "option") a refl is,
        method_exact m,
      ) refl

  pub service_exact : {custom : CustomOptions} {a b : List Lexeme} {x : Service} → IsService custom a x b
      → service_at custom (place_of end a) ≡ Ok (x, place_of end b)
  unfolding service_at service_items_at
  service_exact {custom} (service h u c) =
      rw (
        heading_exact h,
        until_at-exact end closes (adding (service_item_at custom)) (Adds (IsServiceItem custom))
            (service_items_fall custom)
            (adding-exact end (service_item_at custom) (IsServiceItem custom) (service_item_exact custom)) u,
        token_exact end c,
      ) refl
