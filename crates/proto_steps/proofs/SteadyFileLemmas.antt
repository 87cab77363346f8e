-- The same of messages and files.
use Rattle.std.proofs.Common.{◌≡◌, ℕ, zero, suc, false, ◌&&◌, Option, Some, None, [], ◌∷◌, inl, inr, refl}
use Rattle.std.specs.Prelude.{is_some}
use Rattle.proto_lex.specs.declared.span.Span.{Span}
use Rattle.proto_lex.specs.declared.token.TokenKind.TheVariants.{CloseBrace}
use Rattle.proto_grammar.specs.declared.dialect.CustomOptions.{CustomOptions}
use Rattle.proto_grammar.specs.declared.dialect.CustomOptions.TheVariants.{Refuse, Skip}
use Rattle.proto_grammar.specs.declared.dialect.Syntax.{Syntax}
use Rattle.proto_grammar.specs.declared.dialect.Syntax.TheVariants.{Proto3, Extended, Proto2}
use Rattle.proto_grammar.specs.declared.tree.Label.{Label}
use Rattle.proto_grammar.specs.declared.tree.Label.TheVariants.{Optional}
use Rattle.proto_grammar.specs.declared.tree.TypeName.{TypeName}
use Rattle.proto_grammar.specs.declared.tree.FieldType.TheVariants.{Named}
use Rattle.proto_grammar.specs.declared.tree.Item.{Item}
use Rattle.proto_grammar.specs.declared.tree.File.{File}
use Rattle.proto_grammar.specs.Terminal.{is_group_word}
use Rattle.proto_grammar.specs.Syntax.{custom_of, is_proto2}
use Rattle.proto_steps.specs.Step.{Step, Done, ◌>>=◌, Derives}
use Rattle.proto_steps.specs.Step.Turns.{ended}
use Rattle.proto_steps.specs.Terminals.{like, an_ident, a_label}
use Rattle.proto_steps.specs.Grammar.Parts.{dot_name, dot_names, name, leading_dot, type_name, named_type, field_type}
use Rattle.proto_steps.specs.Grammar.Parts.{option_name, part, constant, setting, option_statement, options, numbered}
use Rattle.proto_steps.specs.Grammar.Parts.{typed, label, field, group_head, map_field, integer, range, reserved_item}
use Rattle.proto_steps.specs.Grammar.Parts.{comma_items}
use Rattle.proto_steps.specs.Grammar.Parts.{reserved_items, reserved, extensions}
use Rattle.proto_steps.specs.Grammar.Definitions.{heading, Inside, braced, group, labelled, member, oneof_member}
use Rattle.proto_steps.specs.Grammar.Definitions.{oneof_item, oneof, extend_item, extend, passed_item, passed_items}
use Rattle.proto_steps.specs.Grammar.Definitions.{passed_extend, extend_statement, message, ranges, field_of_map}
use Rattle.proto_steps.specs.Grammar.Definitions.{declared_map, map_item, message_item, inside, import_kind}
use Rattle.proto_steps.specs.Grammar.Definitions.{path_literal, path_literals, import, package_statement, only_package}
use Rattle.proto_steps.specs.Grammar.Definitions.{file_statement, file_statements}
use Rattle.proto_grammar.specs.declared.tree.Field.{Field}
use Rattle.proto_steps.specs.Grammar.Definitions.Inside.{NoLevel, Level}
use Rattle.proto_steps.proofs.FinishLemmas.{Steady, Unseen, Begins}
use Rattle.proto_steps.proofs.FrontLemmas.{StopsBehind, stops_behind, begins_so, when_steady}
use Rattle.proto_steps.proofs.SteadyLemmas.{type_name_steady, named_type_steady, option_statement_steady}
use Rattle.proto_steps.proofs.SteadyLemmas.{service_steady}
use Rattle.proto_steps.proofs.SteadyFieldLemmas.{numbered_steady, typed_steady, label_steady, label_unseen}
use Rattle.proto_steps.proofs.SteadyFieldLemmas.{group_head_steady, map_field_steady, reserved_steady}
use Rattle.proto_steps.proofs.SteadyFieldLemmas.{extensions_steady, enum_steady, enum_unseen}

-- what is inside of one more message or group
pub record Nested (syntax : Syntax) (inside : Inside) : Type 0 where
  pub group_steady : (first : Span) (kind : Option Label) → Steady (group (custom_of syntax) inside first kind)
  pub group_unseen : (first : Span) (kind : Option Label)
      → Unseen (group (custom_of syntax) inside first kind) (like CloseBrace [])
  pub message_steady : Steady (message inside)
  pub message_unseen : Unseen (message inside) (like CloseBrace [])

nested_none : (syntax : Syntax) → Nested syntax NoLevel
unfolding group message
nested_none syntax = search depth 40

nested_level : (syntax : Syntax) (item : Step (Option Item)) → Steady item → Unseen item (like CloseBrace [])
    → Nested syntax (Level (braced item))
unfolding group group_head options message braced heading
nested_level syntax item steady unseen = search (group_head_steady) depth 40

-- ---- the first tokens of members

label_reads : (syntax : Syntax) → Derives (label syntax) (a_label ∷ []) (Some Optional) []
unfolding label
label_reads syntax = inr (refl, inl (refl, (a_label.span, [], (a_label, refl, refl, refl), (refl, refl))))

a_name : TypeName
a_name = record { leading_dot = None; components = an_ident.span ∷ [] }

field_type_reads : Derives field_type (an_ident ∷ []) (Named a_name) []
unfolding field_type type_name leading_dot name dot_names a_name
field_type_reads =
    inr (
      refl,
      (
        a_name,
        [],
        (
          None,
          an_ident ∷ [],
          inr (refl, (refl, refl)),
          (an_ident.span ∷ [], [], (an_ident.span, [], (an_ident, refl, refl, refl), ended refl), (refl, refl)),
        ),
        (refl, refl),
      ),
    )

typed_stops : (custom : CustomOptions) (first : Span) (kind : Option Label)
    → StopsBehind (typed custom first kind) an_ident
unfolding typed numbered
typed_stops custom first kind =
    stops_behind {B = Field} field_type (λ type. numbered custom first >>= λ heading. Done (record {
      heading = heading;
      label = kind;
      field_type = type;
    })) an_ident an_ident (Named a_name) field_type_reads refl

is_no_group : (syntax : Syntax) → (is_proto2 syntax && is_group_word an_ident) ≡ false
is_no_group (Proto3 custom) = refl
is_no_group Extended = refl
is_no_group Proto2 = refl

labelled_begins : (syntax : Syntax) (inside : Inside) (first : Span) → Begins (labelled syntax inside first None)
    an_ident
unfolding labelled
labelled_begins syntax inside first =
    let r = typed_stops (custom_of syntax) first None in
    begins_so (labelled syntax inside first None) an_ident (r.0, inr (is_no_group syntax, inl r.1))

member_begins : (syntax : Syntax) (inside : Inside) (first : Span)
    → Begins (label syntax >>= λ kind. labelled syntax inside first kind) a_label
unfolding labelled typed field_type type_name leading_dot name
member_begins syntax inside first =
    begins_so (label syntax >>= λ kind. labelled syntax inside first kind) a_label
    (stops_behind (label syntax) (λ kind. labelled syntax inside first kind) a_label an_ident (Some Optional)
    (label_reads syntax) refl)

field_begins : (custom : CustomOptions) (first : Span)
    → Begins (label (Proto3 custom) >>= λ kind. typed custom first kind) a_label
unfolding typed field_type type_name leading_dot name
field_begins custom first =
    begins_so (label (Proto3 custom) >>= λ kind. typed custom first kind) a_label
    (stops_behind (label (Proto3 custom)) (λ kind. typed custom first kind) a_label an_ident (Some Optional)
    (label_reads (Proto3 custom)) refl)

-- ---- messages

pub labelled_steady : (syntax : Syntax) (inside : Inside) (first : Span) (kind : Option Label) → Nested syntax inside
    → Steady (labelled syntax inside first kind)
unfolding labelled typed numbered field_type type_name leading_dot name dot_names dot_name
labelled_steady (Proto3 custom) inside first kind nested = search (typed_steady, nested.group_steady) depth 40
labelled_steady Extended inside first kind nested = search (typed_steady, nested.group_steady) depth 40
labelled_steady Proto2 inside first kind nested = search (typed_steady, nested.group_steady) depth 40

pub labelled_unseen : (syntax : Syntax) (inside : Inside) (first : Span) (kind : Option Label) → Nested syntax inside
    → Unseen (labelled syntax inside first kind) (like CloseBrace [])
unfolding labelled typed numbered field_type type_name leading_dot name dot_names dot_name options
labelled_unseen syntax inside first kind nested = search (nested.group_unseen) depth 40

pub member_steady : (syntax : Syntax) (inside : Inside) → Nested syntax inside → Steady (member syntax inside)
unfolding member labelled typed numbered field_type type_name leading_dot name dot_names dot_name
member_steady syntax inside nested = search (label_steady, label_unseen, labelled_steady, member_begins) depth 40

pub member_unseen : (syntax : Syntax) (inside : Inside) → Nested syntax inside → Unseen (member syntax inside)
    (like CloseBrace [])
unfolding member labelled typed numbered field_type type_name leading_dot name dot_names dot_name
member_unseen syntax inside nested = search (labelled_unseen) depth 40

pub oneof_member_steady : (syntax : Syntax) (inside : Inside) → Nested syntax inside → Steady
    (oneof_member syntax inside)
unfolding oneof_member
oneof_member_steady syntax inside nested = search (labelled_steady, labelled_begins) depth 40

pub oneof_item_steady : (syntax : Syntax) (inside : Inside) → Nested syntax inside → Steady (oneof_item syntax inside)
unfolding oneof_item oneof_member option_statement
oneof_item_steady syntax inside nested = search (option_statement_steady, oneof_member_steady) depth 40

pub oneof_item_unseen : (syntax : Syntax) (inside : Inside) → Nested syntax inside → Unseen (oneof_item syntax inside)
    (like CloseBrace [])
unfolding oneof_item oneof_member option_statement setting option_name part constant
oneof_item_unseen syntax inside nested = search (labelled_unseen) depth 40

pub oneof_steady : (syntax : Syntax) (inside : Inside) → Nested syntax inside → Steady (oneof syntax inside)
unfolding oneof heading braced
oneof_steady syntax inside nested = search (oneof_item_steady, oneof_item_unseen) depth 40

pub oneof_unseen : (syntax : Syntax) (inside : Inside) → Nested syntax inside → Unseen (oneof syntax inside)
    (like CloseBrace [])
unfolding oneof heading braced
oneof_unseen syntax inside nested = search depth 40

pub extend_item_steady : (syntax : Syntax) (inside : Inside) → Nested syntax inside → Steady (extend_item syntax inside)
unfolding extend_item member
extend_item_steady syntax inside nested = search (member_steady) depth 40

pub extend_item_unseen : (syntax : Syntax) (inside : Inside) → Nested syntax inside → Unseen (extend_item syntax inside)
    (like CloseBrace [])
unfolding extend_item member
extend_item_unseen syntax inside nested = search (member_unseen) depth 40

pub extend_steady : (syntax : Syntax) (inside : Inside) → Nested syntax inside → Steady (extend syntax inside)
unfolding extend braced named_type type_name leading_dot name dot_names dot_name
extend_steady syntax inside nested = search (named_type_steady, extend_item_steady, extend_item_unseen) depth 40

pub extend_unseen : (syntax : Syntax) (inside : Inside) → Nested syntax inside → Unseen (extend syntax inside)
    (like CloseBrace [])
unfolding extend braced named_type type_name leading_dot name dot_names dot_name
extend_unseen syntax inside nested = search depth 40

pub field_steady : (custom : CustomOptions) → Steady (field custom)
unfolding field typed numbered field_type type_name leading_dot name dot_names dot_name
field_steady custom = search (label_steady, label_unseen, typed_steady, field_begins) depth 40

pub passed_item_steady : Steady passed_item
unfolding passed_item field
passed_item_steady = search (field_steady) depth 40

pub passed_item_unseen : Unseen passed_item (like CloseBrace [])
unfolding passed_item field typed numbered field_type type_name leading_dot name dot_names dot_name options
passed_item_unseen = search depth 40

pub passed_extend_steady : (custom : CustomOptions) → Steady (passed_extend custom)
unfolding passed_extend passed_items type_name leading_dot name dot_names dot_name
passed_extend_steady Refuse = search depth 40
passed_extend_steady Skip = search (type_name_steady, passed_item_steady, passed_item_unseen) depth 40

pub passed_extend_unseen : (custom : CustomOptions) → Unseen (passed_extend custom) (like CloseBrace [])
unfolding passed_extend passed_items type_name leading_dot name dot_names dot_name
passed_extend_unseen Refuse = search depth 40
passed_extend_unseen Skip = search depth 40

pub extend_statement_steady : (syntax : Syntax) (inside : Inside) → Nested syntax inside → Steady
    (extend_statement syntax inside)
unfolding extend_statement
extend_statement_steady (Proto3 custom) inside nested = search (passed_extend_steady) depth 40
extend_statement_steady Extended inside nested = search (extend_steady) depth 40
extend_statement_steady Proto2 inside nested = search (extend_steady) depth 40

pub extend_statement_unseen : (syntax : Syntax) (inside : Inside) → Nested syntax inside → Unseen
    (extend_statement syntax inside) (like CloseBrace [])
unfolding extend_statement
extend_statement_unseen (Proto3 custom) inside nested = search (passed_extend_unseen) depth 40
extend_statement_unseen Extended inside nested = search (extend_unseen) depth 40
extend_statement_unseen Proto2 inside nested = search (extend_unseen) depth 40

pub ranges_steady : (syntax : Syntax) → Steady (ranges syntax)
unfolding ranges
ranges_steady (Proto3 custom) = search depth 40
ranges_steady Extended = search depth 40
ranges_steady Proto2 = search (extensions_steady) depth 40

pub ranges_unseen : (syntax : Syntax) → Unseen (ranges syntax) (like CloseBrace [])
unfolding ranges extensions range integer comma_items options
ranges_unseen (Proto3 custom) = search depth 40
ranges_unseen Extended = search depth 40
ranges_unseen Proto2 = search depth 40

pub field_of_map_steady : (custom : CustomOptions) (first : Span) → Steady (field_of_map custom first)
unfolding field_of_map dot_names dot_name numbered
field_of_map_steady custom first = search (numbered_steady) depth 40

pub map_item_steady : (syntax : Syntax) → Steady (map_item syntax)
unfolding map_item declared_map map_field field_of_map dot_names numbered
map_item_steady (Proto3 custom) = search (map_field_steady, field_of_map_steady) depth 40
map_item_steady Extended = search (map_field_steady, field_of_map_steady) depth 40
map_item_steady Proto2 = search (map_field_steady) depth 40

pub map_field_unseen : (custom : CustomOptions) (first : Span) → Unseen (map_field custom first) (like CloseBrace [])
unfolding map_field options typed numbered field_type type_name leading_dot name dot_names dot_name
map_field_unseen custom first = search depth 40

pub field_of_map_unseen : (custom : CustomOptions) (first : Span) → Unseen (field_of_map custom first)
    (like CloseBrace [])
unfolding field_of_map dot_names numbered options
field_of_map_unseen custom first = search depth 40

pub map_item_unseen : (syntax : Syntax) → Unseen (map_item syntax) (like CloseBrace [])
unfolding map_item declared_map map_field field_of_map dot_names numbered
map_item_unseen (Proto3 custom) = search (map_field_unseen, field_of_map_unseen) depth 40
map_item_unseen Extended = search (map_field_unseen, field_of_map_unseen) depth 40
map_item_unseen Proto2 = search (map_field_unseen) depth 40

pub message_item_steady : (syntax : Syntax) (inside : Inside) → Nested syntax inside → Steady
    (message_item syntax inside)
unfolding message_item member option_statement
message_item_steady syntax inside nested = search (
  nested.message_steady,
  enum_steady,
  option_statement_steady,
  oneof_steady,
  map_item_steady,
  reserved_steady,
  extend_statement_steady,
  ranges_steady,
  member_steady,
) depth 40

pub message_item_unseen : (syntax : Syntax) (inside : Inside) → Nested syntax inside → Unseen
    (message_item syntax inside) (like CloseBrace [])
unfolding message_item member option_statement reserved reserved_items comma_items reserved_item range options
    integer setting option_name part constant
message_item_unseen syntax inside nested = search (
  nested.message_unseen,
  enum_unseen,
  oneof_unseen,
  map_item_unseen,
  extend_statement_unseen,
  ranges_unseen,
  member_unseen,
) depth 40

pub inside_nested : (syntax : Syntax) (levels : ℕ) → Nested syntax (inside syntax levels)
unfolding inside
inside_nested syntax zero = nested_none syntax
inside_nested syntax (suc levels) =
    let within = inside_nested syntax levels in
    nested_level syntax (message_item syntax (inside syntax levels))
    (message_item_steady syntax (inside syntax levels) within)
    (message_item_unseen syntax (inside syntax levels) within)

-- ---- files

pub import_kind_steady : Steady import_kind
unfolding import_kind
import_kind_steady = search depth 40

pub path_literal_steady : Steady path_literal
unfolding path_literal
path_literal_steady = search depth 40

pub import_steady : Steady import
unfolding import import_kind path_literals path_literal
import_steady = search (import_kind_steady, path_literal_steady) depth 40

pub package_statement_steady : Steady package_statement
unfolding package_statement name dot_names dot_name
package_statement_steady = search depth 40

pub only_package_steady : (file : File) → Steady (only_package file)
unfolding only_package
only_package_steady file =
    when_steady (is_some file.package_name) _ _ tt (package_statement_steady, λ x. (tt, tt))

pub file_statement_steady : (levels : ℕ) (syntax : Syntax) (file : File) → Steady (file_statement levels syntax file)
unfolding file_statement
file_statement_steady levels syntax file =
    let nested = inside_nested syntax levels in
    search (
      import_steady,
      only_package_steady,
      option_statement_steady,
      enum_steady,
      service_steady,
      extend_statement_steady,
    ) depth 40

pub file_statements_steady : (levels : ℕ) (syntax : Syntax) → Steady (file_statements levels syntax)
unfolding file_statements
file_statements_steady levels syntax = λ file. file_statement_steady levels syntax file
