-- `--root`: the folder below which the sources of an index are.
use Rattle.std.specs.Prelude.{List, Option, codes}
use Rattle.clap.specs.Words.{Row, Rule, Text, first_of}
use Rattle.command_line.specs.Arguments.{option_rule}

abbrev pub root_rule : Rule
root_rule = option_rule (codes "root")

abbrev pub root_of : List Row → Option Text
root_of rows = first_of (codes "root") rows
