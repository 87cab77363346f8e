-- What is in an enum takes a token.
use Rattle.std.proofs.Common.{◌≡◌, ◌<◌, Ok, Option, length, inl}
use Rattle.proto_grammar.specs.declared.dialect.CustomOptions.{CustomOptions}
use Rattle.proto_grammar.specs.declared.tree.Heading.{Heading}
use Rattle.proto_grammar.specs.Lexeme.{Place}
use Rattle.proto_steps.specs.Step.{run}
use Rattle.proto_steps.specs.Grammar.Parts.{option_statement, reserved}
use Rattle.proto_steps.specs.Grammar.Definitions.{value, enum_item}
use Rattle.proto_steps.proofs.MoveLemmas.{Moves, shorter}

pub enum_item_moves : (custom : CustomOptions) → Moves (enum_item custom)
unfolding enum_item option_statement reserved value
enum_item_moves custom = (inl tt, (inl (inl tt), (inl (inl tt), inl (inl tt))))

pub enum_item_shorter : (custom : CustomOptions) (place after : Place) (x : Option Heading)
    → run (enum_item custom) place ≡ Ok (x, after) → length after.left < length place.left
enum_item_shorter custom place after x e = shorter (enum_item custom) (enum_item_moves custom) place after x e
