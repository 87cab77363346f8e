-- Which faults are of custom options.
use Rattle.std.specs.Prelude.{Bool, true, false}
use Rattle.proto_grammar.specs.declared.fault.SyntaxFault.{SyntaxFault}
use Rattle.proto_grammar.specs.declared.fault.SyntaxFault.TheVariants.{CustomOption, Aggregate, Extend}

abbrev pub is_of_custom_options : SyntaxFault → Bool
is_of_custom_options (CustomOption offset) = true
is_of_custom_options (Aggregate offset) = true
is_of_custom_options (Extend offset) = true
is_of_custom_options _ = false
