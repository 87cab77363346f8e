-- What faults are of, in names, options, fields, reserved names and numbers, enums and services.
use Rattle.std.proofs.Common.{ℕ, Bool, true, false, Option, None, List, [], ◌∷◌, inl, inr, refl}
use Rattle.proto_lex.specs.declared.span.Span.{Span}
use Rattle.proto_lex.specs.declared.token.TokenKind.TheVariants.{OpenBrace, CloseBrace, OpenParenthesis}
use Rattle.proto_grammar.specs.declared.dialect.CustomOptions.{CustomOptions}
use Rattle.proto_grammar.specs.declared.dialect.CustomOptions.TheVariants.{Refuse, Skip}
use Rattle.proto_grammar.specs.declared.dialect.Syntax.{Syntax}
use Rattle.proto_grammar.specs.declared.dialect.Syntax.TheVariants.{Proto3, Extended, Proto2}
use Rattle.proto_grammar.specs.declared.fault.SyntaxFault.TheVariants.{Grammar}
use Rattle.proto_grammar.specs.declared.tree.Label.{Label}
use Rattle.proto_grammar.specs.Lexeme.{Lexeme}
use Rattle.proto_grammar.specs.Terminal.{first_is, of_kind}
use Rattle.proto_steps.specs.Step.{Step, Refused}
use Rattle.proto_steps.specs.Terminals.{an_ident, like}
use Rattle.proto_steps.specs.Grammar.Parts.{dot_name, dot_names, name, leading_dot, type_name, named_type, field_type}
use Rattle.proto_steps.specs.Grammar.Parts.{extension, part, dot_part, dot_parts, option_name, string, more_strings}
use Rattle.proto_steps.specs.Grammar.Parts.{strings, aggregate, signed, constant, setting, comma_setting}
use Rattle.proto_steps.specs.Grammar.Parts.{comma_settings, option_statement, bracketed, options, numbered, typed}
use Rattle.proto_steps.specs.Grammar.Parts.{required, label, group_head, map_field, integer, range_end, range}
use Rattle.proto_steps.specs.Grammar.Parts.{reserved_item, comma_item, comma_items, reserved_items, reserved}
use Rattle.proto_steps.specs.Grammar.Parts.{extensions}
use Rattle.proto_steps.specs.Grammar.Definitions.{heading, value, enum_item, enum_items, enumeration, stream}
use Rattle.proto_steps.specs.Grammar.Definitions.{method_type, method_item, method_items, method_body, method_end}
use Rattle.proto_steps.specs.Grammar.Definitions.{method, service_item, service_items, service}
use Rattle.proto_steps.proofs.ExplainLemmas.{Explains, Deeply, lit, done, never, option_ban, take, count, either_of}
use Rattle.proto_steps.proofs.ExplainLoopLemmas.{one_then, many, behind_token}
use Rattle.proto_steps.proofs.ExplainLemmas.OptionBan.{custom_option, aggregate as aggregate_ban}

-- Faults are of these, and of nothing that is too deep unless `deep`.
abbrev pub Told : (deep : Bool) → CustomOptions → (List Lexeme → Bool) → {A : Type 0} → Step A → Step A → Type 0
Told deep custom on p q = Explains custom (Deeply deep) on p q

module _ {deep : Bool} where
  -- ---- names and types

  pub name_told : {custom : CustomOptions} {on : List Lexeme → Bool} → Told deep custom on name name
  unfolding name dot_names dot_name
  name_told = search (done, take, one_then, many) depth 40

  pub dot_names_told : {custom : CustomOptions} {on : List Lexeme → Bool} (components : List Span)
      → Told deep custom on (dot_names components) (dot_names components)
  unfolding dot_names dot_name
  dot_names_told components = search (done, take, one_then, many) depth 40

  pub type_name_told : {custom : CustomOptions} {on : List Lexeme → Bool} → Told deep custom on type_name type_name
  unfolding type_name leading_dot
  type_name_told = search (name_told, done, take, one_then, either_of) depth 40

  pub named_type_told : {custom : CustomOptions} {on : List Lexeme → Bool} → Told deep custom on named_type named_type
  unfolding named_type
  named_type_told = search (type_name_told, never, either_of) depth 40

  pub field_type_told : {custom : CustomOptions} {on : List Lexeme → Bool} → Told deep custom on field_type field_type
  unfolding field_type
  field_type_told = search (type_name_told, done, take, one_then, either_of) depth 40

  -- ---- options

  pub strings_told : {custom : CustomOptions} {on : List Lexeme → Bool} → Told deep custom on strings strings
  unfolding strings string more_strings
  strings_told = search (done, take, one_then, many) depth 40

  extension_told : (custom : CustomOptions)
      → Told deep custom (first_is (of_kind OpenParenthesis)) (extension custom) (extension Skip)
  unfolding extension type_name leading_dot name
  extension_told Refuse =
      option_ban (λ t is. custom_option is)
      (behind_token (record { is = of_kind OpenParenthesis; example = like OpenParenthesis [] }) _ an_ident (λ x. refl))
  extension_told Skip = search (type_name_told, done, take, one_then) depth 40

  part_told : (custom : CustomOptions) {on : List Lexeme → Bool} → Told deep custom on (part custom) (part Skip)
  unfolding part
  part_told custom = search (extension_told, done, take, one_then, either_of) depth 40

  option_name_told : (custom : CustomOptions) {on : List Lexeme → Bool}
      → Told deep custom on (option_name custom) (option_name Skip)
  unfolding option_name dot_parts dot_part
  option_name_told custom = search (part_told, take, one_then, many) depth 40

  aggregate_told : (custom : CustomOptions)
      → Told deep custom (first_is (of_kind OpenBrace)) (aggregate custom) (aggregate Skip)
  unfolding aggregate
  aggregate_told Refuse =
      option_ban (λ t is. aggregate_ban is)
      (behind_token (record { is = of_kind OpenBrace; example = like OpenBrace [] }) _ (like CloseBrace []) (λ x. refl))
  aggregate_told Skip = search (take, count, one_then) depth 40

  constant_told : (custom : CustomOptions) {on : List Lexeme → Bool}
      → Told deep custom on (constant custom) (constant Skip)
  unfolding constant signed
  constant_told custom = search (name_told, strings_told, aggregate_told, done, take, one_then, either_of) depth 40

  setting_told : (custom : CustomOptions) {on : List Lexeme → Bool}
      → Told deep custom on (setting custom) (setting Skip)
  unfolding setting
  setting_told custom = search (option_name_told, constant_told, take, one_then) depth 40

  pub option_told : (custom : CustomOptions) {on : List Lexeme → Bool}
      → Told deep custom on (option_statement custom) (option_statement Skip)
  unfolding option_statement
  option_told custom = search (setting_told, done, take, one_then) depth 40

  pub options_told : (custom : CustomOptions) {on : List Lexeme → Bool}
      → Told deep custom on (options custom) (options Skip)
  unfolding options bracketed comma_settings comma_setting
  options_told custom = search (setting_told, done, take, one_then, either_of, many) depth 40

  -- ---- fields

  pub numbered_told : (custom : CustomOptions) (first : Span) {on : List Lexeme → Bool}
      → Told deep custom on (numbered custom first) (numbered Skip first)
  unfolding numbered
  numbered_told custom first = search (options_told, done, take, one_then) depth 40

  pub typed_told : (custom : CustomOptions) (first : Span) (kind : Option Label) {on : List Lexeme → Bool}
      → Told deep custom on (typed custom first kind) (typed Skip first kind)
  unfolding typed
  typed_told custom first kind = search (field_type_told, numbered_told, done, one_then) depth 40

  pub label_told : {custom : CustomOptions} (syntax : Syntax) {on : List Lexeme → Bool}
      → Told deep custom on (label syntax) (label syntax)
  unfolding label required
  label_told (Proto3 custom) = search (done, take, one_then, either_of) depth 40
  label_told Extended = search (done, take, one_then, either_of) depth 40
  label_told Proto2 = search (done, take, one_then, either_of) depth 40

  pub group_head_told : (custom : CustomOptions) (first : Span) (kind : Option Label) {on : List Lexeme → Bool}
      → Told deep custom on (group_head custom first kind) (group_head Skip first kind)
  unfolding group_head
  group_head_told custom first kind = search (options_told, done, take, one_then) depth 40

  pub map_field_told : (custom : CustomOptions) (first : Span) {on : List Lexeme → Bool}
      → Told deep custom on (map_field custom first) (map_field Skip first)
  unfolding map_field
  map_field_told custom first = search (field_type_told, numbered_told, done, take, one_then) depth 40

  -- ---- extensions and reserved

  integer_told : {custom : CustomOptions} (negative : Bool) {on : List Lexeme → Bool}
      → Told deep custom on (integer negative) (integer negative)
  unfolding integer
  integer_told true = search (done, take, one_then, either_of) depth 40
  integer_told false = search (done, take, one_then, either_of) depth 40

  range_told : {custom : CustomOptions} (negative : Bool) {on : List Lexeme → Bool}
      → Told deep custom on (range negative) (range negative)
  unfolding range range_end
  range_told negative = search (integer_told, done, take, one_then, either_of) depth 40

  reserved_items_told : {custom : CustomOptions} (negative names : Bool) {on : List Lexeme → Bool}
      → Told deep custom on (reserved_items negative names) (reserved_items negative names)
  unfolding reserved_items comma_items comma_item reserved_item
  reserved_items_told negative true = search (strings_told, take, one_then, many) depth 40
  reserved_items_told negative false = search (range_told, take, one_then, many) depth 40

  pub reserved_told : {custom : CustomOptions} (negative : Bool) {on : List Lexeme → Bool}
      → Told deep custom on (reserved negative) (reserved negative)
  unfolding reserved
  reserved_told negative = search (reserved_items_told, done, take, one_then, either_of) depth 40

  pub extensions_told : (custom : CustomOptions) {on : List Lexeme → Bool}
      → Told deep custom on (extensions custom) (extensions Skip)
  unfolding extensions comma_items comma_item reserved_item
  extensions_told custom = search (range_told, options_told, done, take, one_then, many) depth 40

  -- ---- enums and services

  pub heading_told : {custom : CustomOptions} (spelling : List ℕ) {on : List Lexeme → Bool}
      → Told deep custom on (heading spelling) (heading spelling)
  unfolding heading
  heading_told spelling = search (done, take, one_then) depth 40

  value_told : (custom : CustomOptions) {on : List Lexeme → Bool} → Told deep custom on (value custom) (value Skip)
  unfolding value
  value_told custom = search (integer_told, options_told, done, take, one_then) depth 40

  pub enum_told : (custom : CustomOptions) {on : List Lexeme → Bool}
      → Told deep custom on (enumeration custom) (enumeration Skip)
  unfolding enumeration enum_items enum_item
  enum_told custom =
      search (heading_told, option_told, reserved_told, value_told, done, take, one_then, either_of, many) depth 40

  method_type_told : {custom : CustomOptions} {on : List Lexeme → Bool} → Told deep custom on method_type method_type
  unfolding method_type stream
  method_type_told = search (named_type_told, done, take, one_then, either_of) depth 40

  method_end_told : (custom : CustomOptions) {on : List Lexeme → Bool}
      → Told deep custom on (method_end custom) (method_end Skip)
  unfolding method_end method_body method_items method_item
  method_end_told custom = search (option_told, done, take, one_then, either_of, many) depth 40

  method_told : (custom : CustomOptions) {on : List Lexeme → Bool} → Told deep custom on (method custom) (method Skip)
  unfolding method
  method_told custom = search (method_type_told, method_end_told, done, take, one_then) depth 40

  pub service_told : (custom : CustomOptions) {on : List Lexeme → Bool}
      → Told deep custom on (service custom) (service Skip)
  unfolding service service_items service_item
  service_told custom =
      search (heading_told, option_told, method_told, done, take, one_then, either_of, many) depth 40

-- ---- literals

-- no field begins with one
pub typed_at_literal : (custom : CustomOptions) (first : Span) (kind : Option Label) (u : Lexeme) (end : ℕ)
    (c : List Lexeme) → Refused (typed custom first kind) end (lit u ∷ c) (Grammar u.span.start) (lit u ∷ c)
unfolding typed field_type type_name leading_dot name
typed_at_literal custom first kind u end c =
    inl (inr (refl, inl (inr (None, lit u ∷ c, inr (refl, (refl, refl)), inl (inl (refl, refl, refl))))))
