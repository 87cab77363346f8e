-- The same of what is in messages and enums.
use Rattle.std.proofs.Common.{Bool, true, false, Option, [], refl}
use Rattle.proto_lex.specs.declared.span.Span.{Span}
use Rattle.proto_lex.specs.declared.token.TokenKind.TheVariants.{Semicolon, OpenBrace, CloseBrace, CloseBracket}
use Rattle.proto_lex.specs.declared.token.TokenKind.TheVariants.{Greater}
use Rattle.proto_grammar.specs.declared.dialect.CustomOptions.{CustomOptions}
use Rattle.proto_grammar.specs.declared.dialect.CustomOptions.TheVariants.{Refuse, Skip}
use Rattle.proto_grammar.specs.declared.dialect.Syntax.{Syntax}
use Rattle.proto_grammar.specs.declared.dialect.Syntax.TheVariants.{Proto3, Extended, Proto2}
use Rattle.proto_grammar.specs.declared.tree.Label.{Label}
use Rattle.proto_steps.specs.Terminals.{like, an_ident}
use Rattle.proto_steps.specs.Grammar.Parts.{dot_name, dot_names, name, leading_dot, type_name, field_type}
use Rattle.proto_steps.specs.Grammar.Parts.{part, option_name, string, more_strings, strings}
use Rattle.proto_steps.specs.Grammar.Parts.{aggregate, signed, constant, setting, comma_setting, comma_settings}
use Rattle.proto_steps.specs.Grammar.Parts.{option_statement, bracketed, options, numbered, typed, required, label}
use Rattle.proto_steps.specs.Grammar.Parts.{group_head, map_field, integer, range_end, range, reserved_item, comma_item}
use Rattle.proto_steps.specs.Grammar.Parts.{comma_items, reserved_items, reserved, extensions}
use Rattle.proto_steps.specs.Grammar.Definitions.{heading, value, enum_item, enum_items, enumeration}
use Rattle.proto_steps.proofs.FinishLemmas.{Steady, Unseen}
use Rattle.proto_steps.proofs.SteadyLemmas.{type_name_steady, strings_steady, setting_steady, option_statement_steady}

-- ---- fields, extensions and reserved

pub constant_unseen_there : (custom : CustomOptions) → Unseen (constant custom) (like CloseBracket [])
unfolding constant signed strings string more_strings aggregate name dot_names dot_name
constant_unseen_there Refuse = search depth 40
constant_unseen_there Skip = search depth 40

pub bracketed_steady : (custom : CustomOptions) → Steady (bracketed custom)
unfolding bracketed comma_settings comma_setting setting option_name part constant
bracketed_steady custom = search (setting_steady, constant_unseen_there) depth 40

pub options_steady : (custom : CustomOptions) → Steady (options custom)
unfolding options bracketed
options_steady custom = search (bracketed_steady) depth 40

pub options_unseen : (custom : CustomOptions) → Unseen (options custom) (like Semicolon [])
unfolding options bracketed comma_settings setting option_name part constant
options_unseen custom = search depth 40

pub options_unseen_there : (custom : CustomOptions) → Unseen (options custom) (like OpenBrace [])
unfolding options bracketed comma_settings setting option_name part constant
options_unseen_there custom = search depth 40

pub numbered_steady : (custom : CustomOptions) (first : Span) → Steady (numbered custom first)
unfolding numbered options
numbered_steady custom first = search (options_steady, options_unseen) depth 40

pub field_type_steady : Steady field_type
unfolding field_type type_name leading_dot name dot_names dot_name
field_type_steady = search (type_name_steady) depth 40

pub field_type_unseen : Unseen field_type an_ident
unfolding field_type type_name leading_dot name dot_names dot_name
field_type_unseen = search depth 40

pub field_type_unseen_there : Unseen field_type (like Greater [])
unfolding field_type type_name leading_dot name dot_names dot_name
field_type_unseen_there = search depth 40

pub typed_steady : (custom : CustomOptions) (first : Span) (kind : Option Label) → Steady (typed custom first kind)
unfolding typed numbered options
typed_steady custom first kind = search (field_type_steady, numbered_steady, field_type_unseen) depth 40

pub label_steady : (syntax : Syntax) → Steady (label syntax)
unfolding label required
label_steady (Proto3 custom) = search depth 40
label_steady Extended = search depth 40
label_steady Proto2 = search depth 40

pub label_unseen : (syntax : Syntax) → Unseen (label syntax) an_ident
unfolding label required
label_unseen (Proto3 custom) = search depth 40
label_unseen Extended = search depth 40
label_unseen Proto2 = search depth 40

pub group_head_steady : (custom : CustomOptions) (first : Span) (kind : Option Label) → Steady
    (group_head custom first kind)
unfolding group_head options
group_head_steady custom first kind = search (options_steady, options_unseen_there) depth 40

pub map_field_steady : (custom : CustomOptions) (first : Span) → Steady (map_field custom first)
unfolding map_field numbered field_type type_name leading_dot name dot_names dot_name
map_field_steady custom first = search (field_type_steady, numbered_steady, field_type_unseen_there) depth 40

pub integer_steady : (negative : Bool) → Steady (integer negative)
unfolding integer
integer_steady true = search depth 40
integer_steady false = search depth 40

pub range_end_steady : (negative : Bool) → Steady (range_end negative)
unfolding range_end integer
range_end_steady negative = search (integer_steady) depth 40

pub range_steady : (negative : Bool) → Steady (range negative)
unfolding range range_end integer
range_steady negative = search (integer_steady, range_end_steady) depth 40

pub reserved_item_steady : (names : Bool) (negative : Bool) → Steady (reserved_item negative names)
unfolding reserved_item range strings string
reserved_item_steady true negative = search (strings_steady) depth 40
reserved_item_steady false negative = search (range_steady) depth 40

pub reserved_items_steady : (names : Bool) (negative : Bool) → Steady (reserved_items negative names)
unfolding reserved_items comma_items comma_item reserved_item range strings string integer
reserved_items_steady true negative = search (reserved_item_steady) depth 40
reserved_items_steady false negative = search (reserved_item_steady) depth 40

pub reserved_items_unseen : (names : Bool) (negative : Bool) → Unseen (reserved_items negative names)
    (like Semicolon [])
unfolding reserved_items comma_items comma_item reserved_item range range_end strings string more_strings integer
reserved_items_unseen true negative = search depth 40
reserved_items_unseen false negative = search depth 40

pub reserved_steady : (negative : Bool) → Steady (reserved negative)
unfolding reserved reserved_items comma_items reserved_item range integer
reserved_steady negative = search (reserved_items_steady, reserved_items_unseen) depth 40

pub comma_items_steady : Steady (comma_items false false)
unfolding comma_items comma_item reserved_item range integer
comma_items_steady = search (reserved_item_steady) depth 40

pub comma_items_unseen : Unseen (comma_items false false) (like Semicolon [])
unfolding comma_items comma_item reserved_item range range_end integer
comma_items_unseen = search depth 40

pub range_unseen : (negative : Bool) → Unseen (range negative) (like Semicolon [])
unfolding range range_end integer
range_unseen negative = search depth 40

pub extensions_steady : (custom : CustomOptions) → Steady (extensions custom)
unfolding extensions range integer comma_items options
extensions_steady custom = (
  refl,
  λ keyword. (
    (
      range_steady false,
      λ x. (
        (
          comma_items_steady,
          λ y. (
            (options_steady custom, λ z. ((refl, λ semicolon. (tt, tt)), options_unseen custom)),
            comma_items_unseen,
          ),
        ),
        range_unseen false,
      ),
    ),
    tt,
  ),
)

-- ---- enums

pub value_steady : (custom : CustomOptions) → Steady (value custom)
unfolding value integer options
value_steady custom = search (integer_steady, options_steady, options_unseen) depth 40

pub enum_item_steady : (custom : CustomOptions) → Steady (enum_item custom)
unfolding enum_item option_statement reserved value
enum_item_steady custom = search (option_statement_steady, reserved_steady, value_steady) depth 40

pub enum_item_unseen : (custom : CustomOptions) → Unseen (enum_item custom) (like CloseBrace [])
unfolding enum_item option_statement reserved value reserved_items comma_items reserved_item range options integer
    setting option_name part constant
enum_item_unseen custom = search depth 40

pub enum_steady : (custom : CustomOptions) → Steady (enumeration custom)
unfolding enumeration heading enum_items
enum_steady custom = search (enum_item_steady, enum_item_unseen) depth 40

pub enum_unseen : (custom : CustomOptions) → Unseen (enumeration custom) (like CloseBrace [])
unfolding enumeration heading enum_items
enum_unseen custom = search depth 40
