-- `--exclude`: what is left out of the folders.
use Rattle.std.specs.Prelude.{List, codes}
use Rattle.clap.specs.Words.{Row, Rule, Text}
use Rattle.command_line.specs.Arguments.{option_rule, repeated}
use Rattle.command_line.specs.Values.{texts_of}

abbrev pub exclude_rule : Rule
exclude_rule = repeated (option_rule (codes "exclude"))

abbrev pub exclude_of : List Row → List Text
exclude_of rows = texts_of (codes "exclude") rows
