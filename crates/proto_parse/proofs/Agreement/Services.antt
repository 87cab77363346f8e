-- Services as data are read as the functions on places read them.
use Rattle.proto_lex.specs.declared.span.Span.{Span}
use Rattle.std.proofs.Common.{◌≡◌, ℕ, Bool, cond, Result, Ok, Err, Some, None, List, [], refl}
use Rattle.std.proofs.Common.{◌∙◌, ap, Option, inl, codes}
use Rattle.proto_lex.specs.declared.token.TokenKind.TheVariants.{Identifier, Semicolon, OpenBrace, OpenParenthesis}
use Rattle.proto_lex.specs.declared.token.TokenKind.TheVariants.{CloseParenthesis}
use Rattle.proto_grammar.specs.declared.dialect.CustomOptions.{CustomOptions}
use Rattle.proto_grammar.specs.declared.fault.SyntaxFault.{SyntaxFault}
use Rattle.proto_grammar.specs.declared.fault.SyntaxFault.TheVariants.{Grammar}
use Rattle.proto_grammar.specs.declared.tree.TypeName.{TypeName}
use Rattle.proto_grammar.specs.declared.tree.Heading.{Heading}
use Rattle.proto_grammar.specs.declared.tree.Method.{Method}
use Rattle.proto_grammar.specs.declared.tree.Service.{Service}
use Rattle.proto_grammar.specs.Lexeme.{Lexeme, Place, place_of}
use Rattle.proto_grammar.specs.Terminal.{first_is, of_kind, is_word, behind}
use Rattle.proto_grammar.specs.Reading.Repetition.{and_then, token_that, adding as adding_at, passing as passing_at}
use Rattle.proto_grammar.specs.Reading.Options.{option_at}
use Rattle.proto_parse.proofs.Reading.Enums.{heading_at}
use Rattle.proto_parse.proofs.Reading.Services.{stream_at, method_type_at, method_item_at, method_items_at}
use Rattle.proto_parse.proofs.Reading.Services.{method_body_at, method_end_at, method_at, service_item_at}
use Rattle.proto_parse.proofs.Reading.Services.{service_items_at, service_at}
use Rattle.proto_steps.specs.Step.{run, adding, passing}
use Rattle.proto_steps.specs.Grammar.Parts.{option_statement}
use Rattle.proto_steps.specs.Grammar.Definitions.{heading, stream, method_type, method_item, method_items, method_body}
use Rattle.proto_steps.specs.Grammar.Definitions.{method_end, method, service_item, service_items, service}
use Rattle.proto_steps.proofs.AgreeFieldLemmas.{next_taken}
use Rattle.proto_steps.proofs.AgreeLemmas.{bind_agree, named_type_agrees, option_statement_agrees}
use Rattle.proto_steps.proofs.ServiceLemmas.{method_item_moves, service_item_moves}
use Rattle.proto_parse.proofs.Agreement.Braced.{closed_by, braced_agree, adding_agrees, adding_missing}

-- ---- a token that is known to be next

-- a value that a token stands for
abbrev valued : {A : Type 0} → A → Span × Place → Result (A × Place) SyntaxFault
valued v x = Ok (v, x.1)

guarded : {A : Type 0} (test : Lexeme → Bool) (v : A) (place : Place) (o : Result (A × Place) SyntaxFault)
    → cond (first_is test place.left) (and_then (token_that test place) (valued v)) o
    ≡ cond (first_is test place.left) (Ok (v, behind place)) o
guarded test v place o = next_taken test place (λ p. Ok (v, p)) o

-- ---- methods

stream_agrees : (place : Place) → run stream place ≡ stream_at place
unfolding run stream stream_at
stream_agrees place = guarded (is_word (codes "stream")) tt place (Ok (tt, place))

-- up to and with the `)`
abbrev closed_type : TypeName × Place → Result (TypeName × Place) SyntaxFault
closed_type z = and_then (token_that (of_kind CloseParenthesis) z.1) (λ w. Ok (z.0, w.1))

method_type_agrees : (place : Place) → run method_type place ≡ method_type_at place
unfolding run method_type method_type_at
method_type_agrees place =
    bind_agree {o = token_that (of_kind OpenParenthesis) place} refl
    (λ (x : Span × Place).
    bind_agree (stream_agrees x.1)
    (λ (y : Unit {0} × Place). ap (λ o. and_then o closed_type) (named_type_agrees y.1)))

pub method_item_agrees : (custom : CustomOptions) (place : Place) → run (method_item custom) place ≡ method_item_at
    custom
    place
unfolding run method_item method_item_at
method_item_agrees custom place =
    ap (λ o. cond (first_is (of_kind Semicolon) place.left)
    (and_then (token_that (of_kind Semicolon) place) (valued tt)) o)
    (option_statement_agrees custom place)
    ∙ guarded (of_kind Semicolon) tt place (option_at custom place)

method_item_missing : (custom : CustomOptions) (end : ℕ) → method_item_at custom (place_of end []) ≡ Err (Grammar end)
unfolding method_item_at option_at token_that
method_item_missing custom end = refl

abbrev opening : Span → Unit {0} → Span × Place → Result (Span × Place) SyntaxFault
opening first s y = Ok (first, y.1)

body_agrees : (custom : CustomOptions) (x : Span × Place)
    → and_then (run (method_items custom) x.1) (closed_by (opening x.0))
    ≡ and_then (method_items_at custom x.1) (closed_by (opening x.0))
unfolding method_items method_items_at
body_agrees custom x =
    braced_agree (passing (method_item custom)) (passing_at (method_item_at custom)) (opening x.0)
    (λ s at. method_item_agrees custom at) (λ s. method_item_moves custom) (λ s end. method_item_missing custom end) tt
    x.1

method_body_agrees : (custom : CustomOptions) (place : Place) → run (method_body custom) place ≡ method_body_at custom
    place
unfolding run method_body method_body_at
method_body_agrees custom place =
    bind_agree {o = token_that (of_kind OpenBrace) place} refl (body_agrees custom)

method_end_agrees : (custom : CustomOptions) (place : Place) → run (method_end custom) place ≡ method_end_at custom
    place
unfolding run method_end method_end_at
method_end_agrees custom place = rw (method_body_agrees custom place) refl

abbrev method_of : Span → Span → TypeName → TypeName → Span × Place → Result (Method × Place) SyntaxFault
method_of first name input output closing =
    Ok (
      record {
        heading = record { first = first; name = name; closing = closing.0 };
        input = input;
        output = output;
      },
      closing.1,
    )

method_agrees : (custom : CustomOptions) (place : Place) → run (method custom) place ≡ method_at custom place
unfolding run method method_at
method_agrees custom place =
    bind_agree {o = token_that (is_word (codes "rpc")) place} refl
    (λ (first : Span × Place).
    bind_agree {o = token_that (of_kind Identifier) first.1} refl
    (λ (name : Span × Place).
    bind_agree (method_type_agrees name.1)
    (λ (input : TypeName × Place).
    bind_agree {o = token_that (is_word (codes "returns")) input.1} refl
    (λ (returns : Span × Place).
    bind_agree (method_type_agrees returns.1)
    (λ (output : TypeName × Place).
    ap (λ o. and_then o (method_of first.0 name.0 input.0 output.0)) (method_end_agrees custom output.1))))))

-- ---- services

abbrev no_method : Unit {0} × Place → Result (Option Method × Place) SyntaxFault
no_method x = Ok (None, x.1)

abbrev some_method : Method × Place → Result (Option Method × Place) SyntaxFault
some_method x = Ok (Some x.0, x.1)

item_agrees : (custom : CustomOptions) (place : Place) (test : Bool)
    → cond test (and_then (run (option_statement custom) place) no_method)
    (and_then (run (method custom) place) some_method)
    ≡ cond test (and_then (option_at custom place) no_method) (and_then (method_at custom place) some_method)
item_agrees custom place test =
    ap (λ o. cond test (and_then o no_method) (and_then (run (method custom) place) some_method))
    (option_statement_agrees custom place)
    ∙ ap (λ o. cond test (and_then (option_at custom place) no_method) (and_then o some_method))
    (method_agrees custom place)

pub service_item_agrees : (custom : CustomOptions) (place : Place)
    → run (service_item custom) place ≡ service_item_at custom place
unfolding run service_item service_item_at
service_item_agrees custom place =
    ap (λ o. cond (first_is (of_kind Semicolon) place.left)
    (and_then (token_that (of_kind Semicolon) place) (valued None)) o)
    (item_agrees custom place (first_is (is_word (codes "option")) place.left))
    ∙ guarded (of_kind Semicolon) None place
    (cond (first_is (is_word (codes "option")) place.left) (and_then (option_at custom place) no_method)
    (and_then (method_at custom place) some_method))

service_item_missing : (custom : CustomOptions) (end : ℕ)
    → service_item_at custom (place_of end []) ≡ Err (Grammar end)
unfolding service_item_at method_at token_that
service_item_missing custom end = refl

abbrev service_of : Heading → List Method → Span × Place → Result (Service × Place) SyntaxFault
service_of heading methods y = Ok (record { heading = heading; methods = methods }, y.1)

methods_agree : (custom : CustomOptions) (x : Heading × Place)
    → and_then (run (service_items custom) x.1) (closed_by (service_of x.0))
    ≡ and_then (service_items_at custom x.1) (closed_by (service_of x.0))
unfolding service_items service_items_at
methods_agree custom x =
    braced_agree (adding (service_item custom)) (adding_at (service_item_at custom)) (service_of x.0)
    (adding_agrees (service_item custom) (service_item_at custom) (service_item_agrees custom))
    (λ s. inl (service_item_moves custom)) (adding_missing (service_item_at custom) (service_item_missing custom)) []
    x.1

pub service_agrees : (custom : CustomOptions) (place : Place) → run (service custom) place ≡ service_at custom place
unfolding run service service_at heading heading_at
service_agrees custom place = bind_agree {o = run (heading (codes "service")) place} refl (methods_agree custom)
