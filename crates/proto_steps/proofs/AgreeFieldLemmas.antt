-- The grammar as data is read as the parser's functions on tokens read: options in brackets, fields, reserved
-- statements and ranges.
use Rattle.std.proofs.Common.{◌≡◌, ℕ, Bool, true, false, cond, Result, Ok, Option, Some, None, List, [], ◌∷◌}
use Rattle.std.proofs.Common.{refl, sym, ap, ◌∙◌, inl, codes}
use Rattle.proto_lex.specs.declared.span.Span.{Span}
use Rattle.proto_lex.specs.declared.token.TokenKind.TheVariants.{Identifier, Integer, StringLiteral, Semicolon, Equals}
use Rattle.proto_lex.specs.declared.token.TokenKind.TheVariants.{OpenBrace, OpenBracket, CloseBracket, Comma, Minus}
use Rattle.proto_lex.specs.declared.token.TokenKind.TheVariants.{Less, Greater}
use Rattle.proto_grammar.specs.declared.dialect.CustomOptions.{CustomOptions}
use Rattle.proto_grammar.specs.declared.dialect.Syntax.{Syntax}
use Rattle.proto_grammar.specs.declared.dialect.Syntax.TheVariants.{Proto3, Extended, Proto2}
use Rattle.proto_grammar.specs.declared.fault.SyntaxFault.{SyntaxFault}
use Rattle.proto_grammar.specs.declared.tree.TypeName.{TypeName}
use Rattle.proto_grammar.specs.declared.tree.FieldType.{FieldType}
use Rattle.proto_grammar.specs.declared.tree.FieldType.TheVariants.{Scalar, Named}
use Rattle.proto_grammar.specs.declared.tree.Heading.{Heading}
use Rattle.proto_grammar.specs.declared.tree.Label.{Label}
use Rattle.proto_grammar.specs.declared.tree.Label.TheVariants.{Repeated, Optional}
use Rattle.proto_grammar.specs.declared.tree.Field.{Field}
use Rattle.proto_grammar.specs.declared.tree.Group.{Group}
use Rattle.proto_grammar.specs.declared.tree.MapField.{MapField}
use Rattle.proto_grammar.specs.Lexeme.{Lexeme, Place, place_of}
use Rattle.proto_grammar.specs.Terminal.{first_is, of_kind, is_word, is_scalar, is_scalar_type, is_key, is_group_name}
use Rattle.proto_grammar.specs.Terminal.{not_next, behind}
use Rattle.proto_grammar.specs.Syntax.{is_proto2}
use Rattle.proto_grammar.specs.Reading.Repetition.{and_then, token_that, span_at, passing as passing_at}
use Rattle.proto_grammar.specs.Reading.Names.{type_at, pass_type_at}
use Rattle.proto_grammar.specs.Reading.Options.{comma_setting_at, comma_settings_at}
use Rattle.proto_grammar.specs.Reading.Options.{bracketed_at, options_at}
use Rattle.proto_grammar.specs.Reading.Fields.{numbered_at, typed_at, required_at, label_at, pass_field_at}
use Rattle.proto_grammar.specs.Reading.Fields.{group_head_at, map_field_at}
use Rattle.proto_grammar.specs.Reading.Reserved.{plain_integer_at, integer_at, range_end_at, range_at}
use Rattle.proto_grammar.specs.Reading.Reserved.{reserved_item_at, comma_item_at, comma_items_at, reserved_at}
use Rattle.proto_grammar.specs.Reading.Reserved.{extensions_at}
use Rattle.proto_steps.specs.Step.{Done, passing, passed, when, run}
use Rattle.proto_steps.specs.Terminals.{int}
use Rattle.proto_steps.specs.Choice.{map_statement}
use Rattle.proto_steps.specs.Grammar.Parts.{type_name, field_type, comma_setting, comma_settings, bracketed}
use Rattle.proto_steps.specs.Grammar.Parts.{options, numbered, typed, required, label, field, group_head, map_field}
use Rattle.proto_steps.specs.Grammar.Parts.{integer, range_end, range, reserved_item, comma_item, comma_items}
use Rattle.proto_steps.specs.Grammar.Parts.{reserved_items, reserved, extensions}
use Rattle.proto_steps.proofs.TurnLemmas.{by_bool}
use Rattle.proto_steps.proofs.MoveLemmas.{Moves}
use Rattle.proto_steps.proofs.AgreeLemmas.{turns_agree, twice, bind_assoc, bind_agree, forgotten, then_sign}
use Rattle.proto_steps.proofs.AgreeLemmas.{type_name_agrees, pass_type_name_agrees, strings_agree, setting_agrees}

-- ---- a token that is known to be next

taken_by : {B : Type 0} (test : Lexeme → Bool) (next : Place → Result B SyntaxFault) (left : List Lexeme) (end : ℕ)
    → first_is test left ≡ true
    → and_then (token_that test (place_of end left)) (λ (x : Span × Place). next x.1) ≡ next
    (behind (place_of end left))
unfolding token_that
taken_by test next [] end h = absurd cc
taken_by test next (t ∷ rest) end h = rw h refl

pub next_taken : {B : Type 0} (test : Lexeme → Bool) (place : Place) (next : Place → Result B SyntaxFault)
    (o : Result B SyntaxFault)
    → cond (first_is test place.left) (and_then (token_that test place) (λ (x : Span × Place). next x.1)) o
    ≡ cond (first_is test place.left) (next (behind place)) o
next_taken test place next o =
    by_bool (first_is test place.left) (λ h. rw h (taken_by test next place.left place.end h)) (λ h. rw h refl)

-- ---- options in brackets

comma_setting_agrees : (custom : CustomOptions) (place : Place)
    → run (comma_setting custom) place ≡ comma_setting_at custom place
unfolding run comma_setting comma_setting_at
comma_setting_agrees custom place =
    bind_agree {o = token_that (of_kind Comma) place} refl (λ (x : Span × Place). setting_agrees custom x.1)

comma_setting_moves : (custom : CustomOptions) → Moves (comma_setting custom)
unfolding comma_setting
comma_setting_moves custom = inl tt

comma_settings_agree : (custom : CustomOptions) (place : Place)
    → run (comma_settings custom) place ≡ comma_settings_at custom place
unfolding run comma_settings comma_settings_at
comma_settings_agree custom place =
    turns_agree (of_kind Comma) (not_next Comma) (passing (comma_setting custom)) (passing_at (comma_setting_at custom))
    (λ a. twice (first_is (of_kind Comma) a)) (λ s at. comma_setting_agrees custom at)
    (λ s. comma_setting_moves custom) tt place

bracketed_agrees : (custom : CustomOptions) (place : Place) → run (bracketed custom) place ≡ bracketed_at custom place
unfolding run bracketed bracketed_at
bracketed_agrees custom place =
    bind_agree {o = token_that (of_kind OpenBracket) place} refl
    (λ (x : Span × Place).
    bind_agree (setting_agrees custom x.1)
    (λ (y : Unit {0} × Place). ap (λ o. and_then o (then_sign CloseBracket)) (comma_settings_agree custom y.1)))

pub options_agree : (custom : CustomOptions) (place : Place) → run (options custom) place ≡ options_at custom place
unfolding run options options_at
options_agree custom place =
    ap (λ o. cond (first_is (of_kind OpenBracket) place.left) o (Ok (tt, place))) (bracketed_agrees custom place)

-- ---- fields

abbrev scalar_of : Span × Place → Result (FieldType × Place) SyntaxFault
scalar_of x = Ok (Scalar x.0, x.1)

abbrev named_of : TypeName × Place → Result (FieldType × Place) SyntaxFault
named_of x = Ok (Named x.0, x.1)

pub field_type_agrees : (place : Place) → run field_type place ≡ type_at place
unfolding run field_type type_at
field_type_agrees place =
    ap (λ o. cond (first_is is_scalar_type place.left) (and_then (token_that is_scalar place) scalar_of)
    (and_then o named_of)) (type_name_agrees place)

-- and where it isn't kept
pass_type_by : (place : Place) (b : Bool)
    → and_then (cond b (and_then (token_that is_scalar place) scalar_of) (and_then (run type_name place) named_of))
    forgotten
    ≡ cond b (and_then (token_that is_scalar place) forgotten) (and_then (run type_name place) forgotten)
pass_type_by place true = bind_assoc (token_that is_scalar place) scalar_of forgotten
pass_type_by place false = bind_assoc (run type_name place) named_of forgotten

pass_type_agrees : (place : Place) → run (passed field_type) place ≡ pass_type_at place
unfolding run field_type pass_type_at
pass_type_agrees place =
    pass_type_by place (first_is is_scalar_type place.left)
    ∙ ap (λ o. cond (first_is is_scalar_type place.left) (and_then (token_that is_scalar place) forgotten) o)
    (pass_type_name_agrees place)

-- the heading, behind its closing token
abbrev heading_of : Span → Span → Span × Place → Result (Heading × Place) SyntaxFault
heading_of first named x = Ok (record { first = first; name = named; closing = x.0 }, x.1)

abbrev numbered_end : Span → Span → Unit {0} × Place → Result (Heading × Place) SyntaxFault
numbered_end first named x = and_then (token_that (of_kind Semicolon) x.1) (heading_of first named)

pub numbered_agrees : (custom : CustomOptions) (first : Span) (place : Place)
    → run (numbered custom first) place ≡ numbered_at custom first place
unfolding run numbered numbered_at
numbered_agrees custom first place =
    bind_agree {o = token_that (of_kind Identifier) place} refl
    (λ (named : Span × Place).
    bind_agree {o = token_that (of_kind Equals) named.1} refl
    (λ (equals : Span × Place).
    bind_agree {o = token_that (of_kind Integer) equals.1} refl
    (λ (value : Span × Place). ap (λ o. and_then o (numbered_end first named.0)) (options_agree custom value.1))))

abbrev typed_end : Option Label → FieldType → Heading × Place → Result (Field × Place) SyntaxFault
typed_end kind type x = Ok (record { heading = x.0; label = kind; field_type = type }, x.1)

pub typed_agrees : (custom : CustomOptions) (first : Span) (kind : Option Label) (place : Place)
    → run (typed custom first kind) place ≡ typed_at custom first kind place
unfolding run typed typed_at
typed_agrees custom first kind place =
    bind_agree (field_type_agrees place)
    (λ (type : FieldType × Place).
    ap (λ o. and_then o (typed_end kind type.0)) (numbered_agrees custom first type.1))

last_label : (syntax : Syntax) (place : Place)
    → run (when (is_proto2 syntax) required (Done None)) place
    ≡ cond (is_proto2 syntax) (required_at place) (Ok (None, place))
unfolding run required required_at
last_label (Proto3 custom) place = refl
last_label Extended place = refl
last_label Proto2 place = refl

pub label_agrees : (syntax : Syntax) (place : Place) → run (label syntax) place ≡ label_at syntax place
unfolding run label label_at
label_agrees syntax place =
    next_taken (is_word (codes "repeated")) place (λ p. Ok (Some Repeated, p))
    (cond (first_is (is_word (codes "optional")) place.left)
    (and_then (token_that (is_word (codes "optional")) place) (λ (x : Span × Place). Ok (Some Optional, x.1)))
    (run (when (is_proto2 syntax) required (Done None)) place))
    ∙ ap (λ o. cond (first_is (is_word (codes "repeated")) place.left) (Ok (Some Repeated, behind place)) o)
    (next_taken (is_word (codes "optional")) place (λ p. Ok (Some Optional, p))
    (run (when (is_proto2 syntax) required (Done None)) place)
    ∙ ap (λ o. cond (first_is (is_word (codes "optional")) place.left) (Ok (Some Optional, behind place)) o)
    (last_label syntax place))

abbrev group_of : Span → Option Label → Span → Span → Span × Place → Result (Group × Place) SyntaxFault
group_of first kind keyword named x =
    Ok (
      record {
        heading = record { first = first; name = named; closing = x.0 };
        label = kind;
        word = keyword;
      },
      x.1,
    )

abbrev group_end : Span → Option Label → Span → Span → Unit {0} × Place → Result (Group × Place) SyntaxFault
group_end first kind keyword named x = and_then (token_that (of_kind OpenBrace) x.1) (group_of first kind keyword named)

pub group_head_agrees : (custom : CustomOptions) (first : Span) (kind : Option Label) (place : Place)
    → run (group_head custom first kind) place ≡ group_head_at custom first kind place
unfolding run group_head group_head_at
group_head_agrees custom first kind place =
    bind_agree {o = token_that (is_word (codes "group")) place} refl
    (λ (keyword : Span × Place).
    bind_agree {o = token_that is_group_name keyword.1} refl
    (λ (named : Span × Place).
    bind_agree {o = token_that (of_kind Equals) named.1} refl
    (λ (equals : Span × Place).
    bind_agree {o = token_that (of_kind Integer) equals.1} refl
    (λ (value : Span × Place).
    ap (λ o. and_then o (group_end first kind keyword.0 named.0)) (options_agree custom value.1)))))

abbrev map_end : Span → FieldType → Heading × Place → Result (MapField × Place) SyntaxFault
map_end from value x = Ok (record { heading = x.0; key = from; value = value }, x.1)

-- a map field with its first word
pub map_statement_agrees : (custom : CustomOptions) (place : Place)
    → run (map_statement custom) place ≡ map_field_at custom place
unfolding run map_statement map_field map_field_at
map_statement_agrees custom place =
    bind_agree {o = token_that (is_word (codes "map")) place} refl
    (λ (first : Span × Place).
    bind_agree {o = token_that (of_kind Less) first.1} refl
    (λ (less : Span × Place).
    bind_agree {o = token_that is_key less.1} refl
    (λ (from : Span × Place).
    bind_agree {o = token_that (of_kind Comma) from.1} refl
    (λ (comma : Span × Place).
    bind_agree (field_type_agrees comma.1)
    (λ (value : FieldType × Place).
    bind_agree {o = token_that (of_kind Greater) value.1} refl
    (λ (greater : Span × Place).
    ap (λ o. and_then o (map_end from.0 value.0)) (numbered_agrees custom first.0 greater.1)))))))

-- ---- a field of which nothing is kept

abbrev passed_end : CustomOptions → Span → Unit {0} × Place → Result (Unit {0} × Place) SyntaxFault
passed_end custom first x = and_then (numbered_at custom first x.1) forgotten

passed_typed : (custom : CustomOptions) (first : Span) (kind : Option Label) (place : Place)
    → and_then (run (typed custom first kind) place) forgotten
    ≡ and_then (pass_type_at place) (passed_end custom first)
unfolding run typed
passed_typed custom first kind place =
    bind_assoc (run field_type place)
    (λ (type : FieldType × Place). and_then (run (numbered custom first) type.1) (typed_end kind type.0)) forgotten
    ∙ bind_agree {o = run field_type place} refl
    (λ (type : FieldType × Place).
    bind_assoc (run (numbered custom first) type.1) (typed_end kind type.0) forgotten
    ∙ ap (λ o. and_then o forgotten) (numbered_agrees custom first type.1))
    ∙ sym_assoc
  where
    sym_assoc : and_then (run field_type place) (λ (type : FieldType × Place). passed_end custom first (tt, type.1))
        ≡ and_then (pass_type_at place) (passed_end custom first)
    sym_assoc =
        sym (bind_assoc (run field_type place) forgotten (passed_end custom first))
        ∙ ap (λ o. and_then o (passed_end custom first)) (pass_type_agrees place)

passed_by : (custom : CustomOptions) (left : List Lexeme) (end : ℕ)
    → run (passed (field custom)) (place_of end left) ≡ pass_field_at custom (place_of end left)
unfolding run field pass_field_at span_at
passed_by custom [] end = refl
passed_by custom (t ∷ rest) end =
    bind_assoc (run (label (Proto3 custom)) (place_of end (t ∷ rest)))
    (λ (kind : Option Label × Place). run (typed custom t.span kind.0) kind.1) forgotten
    ∙ bind_agree (label_agrees (Proto3 custom) (place_of end (t ∷ rest)))
    (λ (kind : Option Label × Place). passed_typed custom t.span kind.0 kind.1)

pub passed_field_agrees : (custom : CustomOptions) (place : Place)
    → run (passed (field custom)) place ≡ pass_field_at custom place
passed_field_agrees custom place = passed_by custom place.left place.end

-- ---- reserved statements and ranges

never_first : (left : List Lexeme) → first_is (λ t. false) left ≡ false
never_first [] = refl
never_first (t ∷ rest) = refl

pub integer_agrees : (negative : Bool) (place : Place) → run (integer negative) place ≡ integer_at negative place
unfolding run integer integer_at plain_integer_at
integer_agrees true place = next_taken (of_kind Minus) place (run (passed int)) (run (passed int) place)
integer_agrees false place =
    ap (λ b. cond b (and_then (token_that (of_kind Minus) place) (λ (x : Span × Place). run (passed int) x.1))
    (run (passed int) place)) (never_first place.left)

range_end_agrees : (negative : Bool) (place : Place) → run (range_end negative) place ≡ range_end_at negative place
unfolding run range_end range_end_at
range_end_agrees negative place =
    next_taken (is_word (codes "max")) place (λ p. Ok (tt, p)) (run (integer negative) place)
    ∙ ap (λ o. cond (first_is (is_word (codes "max")) place.left) (Ok (tt, behind place)) o)
    (integer_agrees negative place)

range_agrees : (negative : Bool) (place : Place) → run (range negative) place ≡ range_at negative place
unfolding run range range_at
range_agrees negative place =
    bind_agree (integer_agrees negative place)
    (λ (x : Unit {0} × Place).
    next_taken (is_word (codes "to")) x.1 (run (range_end negative)) (Ok (tt, x.1))
    ∙ ap (λ o. cond (first_is (is_word (codes "to")) x.1.left) o (Ok (tt, x.1)))
    (range_end_agrees negative (behind x.1)))

reserved_item_agrees : (negative names : Bool) (place : Place)
    → run (reserved_item negative names) place ≡ reserved_item_at negative names place
unfolding run reserved_item reserved_item_at
reserved_item_agrees negative true place = strings_agree place
reserved_item_agrees negative false place = range_agrees negative place

comma_item_agrees : (negative names : Bool) (place : Place)
    → run (comma_item negative names) place ≡ comma_item_at negative names place
unfolding run comma_item comma_item_at
comma_item_agrees negative names place =
    bind_agree {o = token_that (of_kind Comma) place} refl
    (λ (x : Span × Place). reserved_item_agrees negative names x.1)

comma_item_moves : (negative names : Bool) → Moves (comma_item negative names)
unfolding comma_item
comma_item_moves negative names = inl tt

comma_items_agree : (negative names : Bool) (place : Place)
    → run (comma_items negative names) place ≡ comma_items_at negative names place
unfolding run comma_items comma_items_at
comma_items_agree negative names place =
    turns_agree (of_kind Comma) (not_next Comma) (passing (comma_item negative names))
    (passing_at (comma_item_at negative names)) (λ a. twice (first_is (of_kind Comma) a))
    (λ s at. comma_item_agrees negative names at) (λ s. comma_item_moves negative names) tt place

-- the items of a reserved statement and its end, by what they are
items_by : (negative names : Bool) (place : Place)
    → and_then (run (reserved_items negative names) place) (then_sign Semicolon)
    ≡ and_then (reserved_item_at negative names place)
    (λ (x : Unit {0} × Place). and_then (comma_items_at negative names x.1) (then_sign Semicolon))
unfolding run reserved_items
items_by negative names place =
    bind_assoc (run (reserved_item negative names) place)
    (λ (x : Unit {0} × Place). run (comma_items negative names) x.1) (then_sign Semicolon)
    ∙ bind_agree (reserved_item_agrees negative names place)
    (λ (x : Unit {0} × Place). ap (λ o. and_then o (then_sign Semicolon)) (comma_items_agree negative names x.1))

chosen_items : (negative : Bool) (place : Place) (names : Bool)
    → and_then (cond names (run (reserved_items negative true) place) (run (reserved_items negative false) place))
    (then_sign Semicolon)
    ≡ and_then (reserved_item_at negative names place)
    (λ (x : Unit {0} × Place). and_then (comma_items_at negative names x.1) (then_sign Semicolon))
chosen_items negative place true = items_by negative true place
chosen_items negative place false = items_by negative false place

pub reserved_agrees : (negative : Bool) (place : Place) → run (reserved negative) place ≡ reserved_at negative place
unfolding run reserved reserved_at
reserved_agrees negative place =
    bind_agree {o = token_that (is_word (codes "reserved")) place} refl
    (λ (x : Span × Place). chosen_items negative x.1 (first_is (of_kind StringLiteral) x.1.left))

pub extensions_agree : (custom : CustomOptions) (place : Place)
    → run (extensions custom) place ≡ extensions_at custom place
unfolding run extensions extensions_at
extensions_agree custom place =
    bind_agree {o = token_that (is_word (codes "extensions")) place} refl
    (λ (x : Span × Place).
    bind_agree (range_agrees false x.1)
    (λ (y : Unit {0} × Place).
    bind_agree (comma_items_agree false false y.1)
    (λ (z : Unit {0} × Place). ap (λ o. and_then o (then_sign Semicolon)) (options_agree custom z.1))))
