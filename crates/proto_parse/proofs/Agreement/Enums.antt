-- Enums as data are read as the functions on places read them.
use Rattle.std.proofs.Common.{◌≡◌, ℕ, Bool, true, cond, Result, Ok, Err, Option, Some, None, List, []}
use Rattle.std.proofs.Common.{refl, ap, ◌∙◌, inl, codes}
use Rattle.proto_lex.specs.declared.span.Span.{Span}
use Rattle.proto_lex.specs.declared.token.TokenKind.TheVariants.{Identifier, Semicolon, Equals}
use Rattle.proto_grammar.specs.declared.dialect.CustomOptions.{CustomOptions}
use Rattle.proto_grammar.specs.declared.fault.SyntaxFault.{SyntaxFault}
use Rattle.proto_grammar.specs.declared.fault.SyntaxFault.TheVariants.{Grammar}
use Rattle.proto_grammar.specs.declared.tree.Heading.{Heading}
use Rattle.proto_grammar.specs.declared.tree.Enum.{Enum}
use Rattle.proto_grammar.specs.Lexeme.{Place, place_of}
use Rattle.proto_grammar.specs.Terminal.{first_is, of_kind, is_word, behind}
use Rattle.proto_grammar.specs.Reading.Repetition.{and_then, token_that, adding as adding_at}
use Rattle.proto_grammar.specs.Reading.Options.{option_at}
use Rattle.proto_grammar.specs.Reading.Reserved.{reserved_at}
use Rattle.proto_parse.proofs.Reading.Enums.{heading_at, value_at, enum_item_at, enum_items_at, enum_at}
use Rattle.proto_steps.specs.Step.{run, adding}
use Rattle.proto_steps.specs.Grammar.Parts.{option_statement, reserved}
use Rattle.proto_steps.specs.Grammar.Definitions.{heading, value, enum_item, enum_items, enumeration}
use Rattle.proto_steps.proofs.AgreeLemmas.{bind_agree, option_statement_agrees}
use Rattle.proto_steps.proofs.AgreeFieldLemmas.{next_taken, integer_agrees, options_agree, reserved_agrees}
use Rattle.proto_steps.proofs.EnumLemmas.{enum_item_moves}
use Rattle.proto_parse.proofs.Agreement.Braced.{closed_by, braced_agree, adding_agrees, adding_missing, same_cond}

abbrev value_of : Span → Span × Place → Result (Heading × Place) SyntaxFault
value_of named x = Ok (record { first = named; name = named; closing = x.0 }, x.1)

abbrev value_end : Span → Unit {0} × Place → Result (Heading × Place) SyntaxFault
value_end named x = and_then (token_that (of_kind Semicolon) x.1) (value_of named)

value_agrees : (custom : CustomOptions) (place : Place) → run (value custom) place ≡ value_at custom place
unfolding run value value_at
value_agrees custom place =
    bind_agree {o = token_that (of_kind Identifier) place} refl
    (λ (named : Span × Place).
    bind_agree {o = token_that (of_kind Equals) named.1} refl
    (λ (equals : Span × Place).
    bind_agree (integer_agrees true equals.1)
    (λ (given : Unit {0} × Place). ap (λ o. and_then o (value_end named.0)) (options_agree custom given.1))))

abbrev no_value : Unit {0} × Place → Result (Option Heading × Place) SyntaxFault
no_value x = Ok (None, x.1)

abbrev some_value : Heading × Place → Result (Option Heading × Place) SyntaxFault
some_value x = Ok (Some x.0, x.1)

item_agrees : (custom : CustomOptions) (place : Place) (option_next reserved_next : Bool)
    → cond option_next (and_then (run (option_statement custom) place) no_value)
    (cond reserved_next (and_then (run (reserved true) place) no_value)
    (and_then (run (value custom) place) some_value))
    ≡ cond option_next (and_then (option_at custom place) no_value)
    (cond reserved_next (and_then (reserved_at true place) no_value) (and_then (value_at custom place) some_value))
item_agrees custom place option_next reserved_next =
    same_cond option_next (ap (λ o. and_then o no_value) (option_statement_agrees custom place))
    (same_cond reserved_next (ap (λ o. and_then o no_value) (reserved_agrees true place))
    (ap (λ o. and_then o some_value) (value_agrees custom place)))

pub enum_item_agrees : (custom : CustomOptions) (place : Place) → run (enum_item custom) place ≡ enum_item_at custom
    place
unfolding run enum_item enum_item_at
enum_item_agrees custom place =
    next_taken (of_kind Semicolon) place (λ p. Ok (None, p))
    (cond (first_is (is_word (codes "option")) place.left) (and_then (run (option_statement custom) place) no_value)
    (cond (first_is (is_word (codes "reserved")) place.left) (and_then (run (reserved true) place) no_value)
    (and_then (run (value custom) place) some_value)))
    ∙ ap (λ o. cond (first_is (of_kind Semicolon) place.left) (Ok (None, behind place)) o)
    (item_agrees custom place (first_is (is_word (codes "option")) place.left)
    (first_is (is_word (codes "reserved")) place.left))

enum_item_missing : (custom : CustomOptions) (end : ℕ) → enum_item_at custom (place_of end []) ≡ Err (Grammar end)
unfolding enum_item_at value_at token_that
enum_item_missing custom end = refl

abbrev enum_of : Heading → List Heading → Span × Place → Result (Enum × Place) SyntaxFault
enum_of heading values y = Ok (record { heading = heading; values = values }, y.1)

values_agree : (custom : CustomOptions) (x : Heading × Place)
    → and_then (run (enum_items custom) x.1) (closed_by (enum_of x.0))
    ≡ and_then (enum_items_at custom x.1) (closed_by (enum_of x.0))
unfolding enum_items enum_items_at
values_agree custom x =
    braced_agree (adding (enum_item custom)) (adding_at (enum_item_at custom)) (enum_of x.0)
    (adding_agrees (enum_item custom) (enum_item_at custom) (enum_item_agrees custom))
    (λ s. inl (enum_item_moves custom)) (adding_missing (enum_item_at custom) (enum_item_missing custom)) [] x.1

pub enum_agrees : (custom : CustomOptions) (place : Place) → run (enumeration custom) place ≡ enum_at custom place
unfolding run enumeration enum_at heading heading_at
enum_agrees custom place = bind_agree {o = run (heading (codes "enum")) place} refl (values_agree custom)
