-- `--project-root`: where the sources' folder is.
use Rattle.std.specs.Prelude.{List, codes}
use Rattle.clap.specs.Words.{Row, Rule, Text}
use Rattle.command_line.specs.Arguments.{option_rule, or_default}
use Rattle.command_line.specs.Values.{text_of}

abbrev pub project_root_rule : Rule
project_root_rule = or_default (codes "file:///") (option_rule (codes "project-root"))

abbrev pub project_root_of : List Row → Text
project_root_of rows = text_of (codes "project-root") rows
