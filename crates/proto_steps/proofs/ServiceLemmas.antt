-- What is in a service or a method takes a token.
use Rattle.std.proofs.Common.{◌≡◌, ◌<◌, Ok, Option, length, inl}
use Rattle.proto_grammar.specs.declared.dialect.CustomOptions.{CustomOptions}
use Rattle.proto_grammar.specs.declared.tree.Method.{Method}
use Rattle.proto_grammar.specs.Lexeme.{Place}
use Rattle.proto_steps.specs.Step.{run}
use Rattle.proto_steps.specs.Grammar.Parts.{option_statement}
use Rattle.proto_steps.specs.Grammar.Definitions.{method_item, method, service_item}
use Rattle.proto_steps.proofs.MoveLemmas.{Moves, shorter}

pub method_item_moves : (custom : CustomOptions) → Moves (method_item custom)
unfolding method_item option_statement
method_item_moves custom = (inl tt, inl tt)

pub method_item_shorter : (custom : CustomOptions) (place after : Place) (x : Unit {0})
    → run (method_item custom) place ≡ Ok (x, after) → length after.left < length place.left
method_item_shorter custom place after x e = shorter (method_item custom) (method_item_moves custom) place after x e

pub service_item_moves : (custom : CustomOptions) → Moves (service_item custom)
unfolding service_item option_statement method
service_item_moves custom = (inl tt, (inl (inl tt), inl (inl tt)))

pub service_item_shorter : (custom : CustomOptions) (place after : Place) (x : Option Method)
    → run (service_item custom) place ≡ Ok (x, after) → length after.left < length place.left
service_item_shorter custom place after x e = shorter (service_item custom) (service_item_moves custom) place after x e
