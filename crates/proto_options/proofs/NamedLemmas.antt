-- What is in the grammar as an option has names.
use Rattle.std.proofs.Common.{◌≡◌, ℕ, suc, Option, None, List, [], ◌∷◌, ◌++◌, length, refl, subst}
use Rattle.proto_lex.specs.declared.span.Span.{Span}
use Rattle.proto_lex.specs.declared.token.TokenKind.TheVariants.{OpenBrace, Dot}
use Rattle.proto_grammar.specs.declared.dialect.CustomOptions.{CustomOptions}
use Rattle.proto_grammar.specs.Lexeme.{Lexeme}
use Rattle.proto_grammar.specs.Terminal.{of_kind, not_next}
use Rattle.proto_grammar.specs.Grammar.Repetition.{One, Until, Passes}
use Rattle.proto_grammar.specs.Grammar.Repetition.Until.{done, more}
use Rattle.proto_grammar.specs.Grammar.Repetition.Passes.{passes}
use Rattle.proto_grammar.specs.Grammar.Options.{IsOptionPart, IsDotPart, IsClosed, IsConstant, IsSetting}
use Rattle.proto_grammar.specs.Grammar.Options.IsOptionPart.{plain, extension as passed_extension}
use Rattle.proto_grammar.specs.Grammar.Options.IsDotPart.{dot_part as passed_dot_part}
use Rattle.proto_grammar.specs.Grammar.Options.IsOptionName.{option_name as passed_name}
use Rattle.proto_grammar.specs.Grammar.Options.IsConstant.{name as a_name, signed as a_signed, unsigned as a_number}
use Rattle.proto_grammar.specs.Grammar.Options.IsConstant.{strings as some_strings, aggregate as passed_aggregate}
use Rattle.proto_grammar.specs.Grammar.Options.IsSetting.{setting as passed_setting}
use Rattle.proto_options.specs.declared.names.OptionRole.TheVariants.{Field, Extension, Value}
use Rattle.proto_options.specs.declared.names.Setting.{Setting}
use Rattle.proto_options.specs.Names.{Names, named, one_word, plain as plain_name, last_number}
use Rattle.proto_options.specs.Grammar.Aggregates.{IsMessageWithin, max_aggregate_depth}
use Rattle.proto_options.specs.Grammar.Settings.{NamesPart, NamesDotPart, NamesValue, NamesSetting}
use Rattle.proto_options.specs.Grammar.Settings.NamesPart.{field, extension}
use Rattle.proto_options.specs.Grammar.Settings.NamesDotPart.{dot_part}
use Rattle.proto_options.specs.Grammar.Settings.NamesOption.{option_name}
use Rattle.proto_options.specs.Grammar.Settings.NamesValue.{name, signed, unsigned, strings, aggregate}
use Rattle.proto_options.specs.Grammar.Settings.NamesSetting.{setting}
use Rattle.proto_options.proofs.GivenLemmas.{aggregate_given}

part_named : {custom : CustomOptions} (around : Option ℕ) (names : Names) {a b : List Lexeme} → IsOptionPart custom a b
    → (after : Names) × NamesPart around names a after b
part_named around names (plain {name = word} w) = (names ++ named Field around (one_word word) ∷ [], field w)
part_named around names (passed_extension {name = type} o n c) =
    (names ++ named Extension around type ∷ [], extension o n c)

dot_parts_named : {custom : CustomOptions} (names : Names) {s t : Unit {0}} {a b : List Lexeme}
    → Until (not_next Dot) (Passes (IsDotPart custom)) s a t b
    → (after : Names) × Until (not_next Dot) NamesDotPart names a after b
dot_parts_named names (done ended) = (names, done ended)
dot_parts_named names (more further (passes (passed_dot_part d p)) others) =
    let first = part_named (last_number names) names p in
    let rest = dot_parts_named first.0 others in (rest.0, more further (dot_part d first.1) rest.1)

-- the levels of a value are some
some_levels : suc 63 ≡ max_aggregate_depth
some_levels = refl

-- braces are named by the message in them
braces_named : (names : Names) {a b c : List Lexeme} {span : Span} → One (of_kind OpenBrace) a span b
    → IsClosed 1 b c → (after : Names) × NamesValue names a after c
braces_named names {a = a} {c = c} o balanced =
    let its = aggregate_given 63 (last_number names) names o balanced in (
      its.0,
      aggregate o balanced
          (subst (λ (levels : ℕ). IsMessageWithin levels (last_number names) names a its.0 c) some_levels its.1),
    )

value_named : {custom : CustomOptions} (names : Names) {a b : List Lexeme} → IsConstant custom a b
    → (after : Names) × NamesValue names a after b
value_named names (a_name {components = components} n) =
    (names ++ named Value (last_number names) (plain_name components) ∷ [], name n)
value_named names (a_signed s n) = (names, signed s n)
value_named names (a_number n) = (names, unsigned n)
value_named names (some_strings t) = (names, strings t)
value_named names (passed_aggregate o balanced) = braces_named names o balanced

pub setting_named : {custom : CustomOptions} {a b : List Lexeme} → IsSetting custom a b
    → (x : Setting) × NamesSetting a x b
setting_named (passed_setting (passed_name p u) q v) =
    let first = part_named None [] p in
    let rest = dot_parts_named first.0 u in
    let its = value_named rest.0 v in
    (record { parts = length rest.0; names = its.0 }, setting (option_name first.1 rest.1) q its.1)
