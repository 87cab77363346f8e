-- The examples of the grammar are examples, and what is missing goes on with nothing in front of it.
use Rattle.std.proofs.Common.{◌≡◌, ℕ, suc, ◌-◌, [], arith}
use Rattle.proto_lex.specs.declared.token.TokenKind.TheVariants.{Semicolon, Equals, CloseBrace}
use Rattle.proto_grammar.specs.declared.dialect.CustomOptions.{CustomOptions}
use Rattle.proto_grammar.specs.declared.dialect.CustomOptions.TheVariants.{Refuse, Skip}
use Rattle.proto_steps.specs.Terminals.{like}
use Rattle.proto_steps.specs.Grammar.Parts.{dot_name, dot_names, name, leading_dot, type_name, named_type, extension}
use Rattle.proto_steps.specs.Grammar.Parts.{part, dot_part, dot_parts, option_name, string, more_strings, strings}
use Rattle.proto_steps.specs.Grammar.Parts.{aggregate, signed, constant, setting, option_statement}
use Rattle.proto_steps.specs.Grammar.Definitions.{heading, stream, method_type, method_item, method_items, method_body}
use Rattle.proto_steps.specs.Grammar.Definitions.{method_end, method, service_item, service_items, service}
use Rattle.proto_steps.proofs.FinishLemmas.{Steady, Unseen}

-- ---- names and options

pub type_name_steady : Steady type_name
unfolding type_name leading_dot name dot_names dot_name
type_name_steady = search depth 40

pub named_type_steady : Steady named_type
unfolding named_type type_name leading_dot name dot_names dot_name
named_type_steady = search (type_name_steady) depth 40

pub strings_steady : Steady strings
unfolding strings string more_strings
strings_steady = search depth 40

pub extension_steady : (custom : CustomOptions) → Steady (extension custom)
unfolding extension type_name leading_dot name dot_names dot_name
extension_steady Refuse = search depth 40
extension_steady Skip = search depth 40

pub option_name_steady : (custom : CustomOptions) → Steady (option_name custom)
unfolding option_name part extension dot_parts dot_part type_name leading_dot name dot_names dot_name
option_name_steady Refuse = search (extension_steady) depth 40
option_name_steady Skip = search (extension_steady) depth 40

pub option_name_unseen : (custom : CustomOptions) → Unseen (option_name custom) (like Equals [])
unfolding option_name part extension dot_parts dot_part type_name leading_dot name dot_names dot_name
option_name_unseen Refuse = search depth 40
option_name_unseen Skip = search depth 40

one_less : (m : ℕ) → suc m - 1 ≡ m
one_less m = omega arith

pub constant_steady : (custom : CustomOptions) → Steady (constant custom)
unfolding constant signed strings string more_strings aggregate name dot_names dot_name
constant_steady Refuse = search (strings_steady) depth 40
constant_steady Skip = search (strings_steady, one_less) depth 40

pub setting_steady : (custom : CustomOptions) → Steady (setting custom)
unfolding setting option_name part constant
setting_steady custom = search (option_name_steady, option_name_unseen, constant_steady) depth 40

pub constant_unseen : (custom : CustomOptions) → Unseen (constant custom) (like Semicolon [])
unfolding constant signed strings string more_strings aggregate name dot_names dot_name
constant_unseen Refuse = search depth 40
constant_unseen Skip = search depth 40

pub option_statement_steady : (custom : CustomOptions) → Steady (option_statement custom)
unfolding option_statement setting option_name part constant
option_statement_steady custom = search (setting_steady, constant_unseen) depth 40

-- ---- services

pub method_type_steady : Steady method_type
unfolding method_type stream named_type type_name leading_dot name dot_names dot_name
method_type_steady = search (named_type_steady) depth 40

pub method_item_steady : (custom : CustomOptions) → Steady (method_item custom)
unfolding method_item option_statement
method_item_steady custom = search (option_statement_steady) depth 40

pub method_body_steady : (custom : CustomOptions) → Steady (method_body custom)
unfolding method_body method_items method_item option_statement setting option_name part constant
method_body_steady custom = search (method_item_steady) depth 40

pub method_end_steady : (custom : CustomOptions) → Steady (method_end custom)
unfolding method_end method_body
method_end_steady custom = search (method_body_steady) depth 40

pub method_steady : (custom : CustomOptions) → Steady (method custom)
unfolding method method_end method_type stream named_type type_name leading_dot name dot_names dot_name method_body
method_steady custom = search (method_type_steady, method_end_steady) depth 40

pub service_item_steady : (custom : CustomOptions) → Steady (service_item custom)
unfolding service_item option_statement method
service_item_steady custom = search (option_statement_steady, method_steady) depth 40

pub service_item_unseen : (custom : CustomOptions) → Unseen (service_item custom) (like CloseBrace [])
unfolding service_item method method_end method_type stream method_body method_items method_item option_statement
    setting option_name part constant
service_item_unseen custom = search depth 40

pub service_steady : (custom : CustomOptions) → Steady (service custom)
unfolding service heading service_items
service_steady custom = search (service_item_steady, service_item_unseen) depth 40
