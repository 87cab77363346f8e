-- `--only`: the full name below which declarations are kept.
use Rattle.std.specs.Prelude.{List, Option, codes}
use Rattle.clap.specs.Words.{Row, Rule, Text, first_of}
use Rattle.command_line.specs.Arguments.{option_rule}

abbrev pub only_rule : Rule
only_rule = option_rule (codes "only")

abbrev pub only_of : List Row → Option Text
only_of rows = first_of (codes "only") rows
