-- `--project-root` of `join`: where the folder is that the documents' paths are below, if it is given.
use Rattle.std.specs.Prelude.{List, Option, codes}
use Rattle.clap.specs.Words.{Row, Rule, Text, first_of}
use Rattle.command_line.specs.Arguments.{option_rule}

abbrev pub joined_root_rule : Rule
joined_root_rule = option_rule (codes "project-root")

abbrev pub joined_root_of : List Row → Option Text
joined_root_of rows = first_of (codes "project-root") rows
