-- `--replace`: whether a document takes the place of an earlier one.
use Rattle.std.specs.Prelude.{Bool, List, codes}
use Rattle.clap.specs.Words.{Row, Rule}
use Rattle.command_line.specs.Arguments.{flag_rule}
use Rattle.command_line.specs.Values.{is_set}

abbrev pub replace_rule : Rule
replace_rule = flag_rule (codes "replace")

abbrev pub replaces_in : List Row → Bool
replaces_in rows = is_set (codes "replace") rows
