-- `--to`: the folder below which each snapshot goes to a file of its own.
use Rattle.std.specs.Prelude.{List, Option, codes}
use Rattle.clap.specs.Words.{Row, Rule, Text, first_of}
use Rattle.command_line.specs.Arguments.{option_rule}

abbrev pub to_rule : Rule
to_rule = option_rule (codes "to")

abbrev pub to_of : List Row → Option Text
to_of rows = first_of (codes "to") rows
