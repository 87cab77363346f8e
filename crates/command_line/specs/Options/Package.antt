-- `--manager`, `--package` and `--release`: the package that symbols name. Each is empty if it isn't given.
use Rattle.std.specs.Prelude.{List, codes}
use Rattle.clap.specs.Words.{Row, Rule, Text}
use Rattle.command_line.specs.Arguments.{option_rule}
use Rattle.command_line.specs.Values.{text_of}

abbrev pub manager_rule : Rule
manager_rule = option_rule (codes "manager")

abbrev pub package_rule : Rule
package_rule = option_rule (codes "package")

abbrev pub release_rule : Rule
release_rule = option_rule (codes "release")

abbrev pub manager_of : List Row → Text
manager_of rows = text_of (codes "manager") rows

abbrev pub package_of : List Row → Text
package_of rows = text_of (codes "package") rows

abbrev pub release_of : List Row → Text
release_of rows = text_of (codes "release") rows
