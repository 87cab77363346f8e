-- `--json`: whether each answer is an object of JSON on a line.
use Rattle.std.specs.Prelude.{Bool, List, codes}
use Rattle.clap.specs.Words.{Row, Rule}
use Rattle.command_line.specs.Arguments.{flag_rule}
use Rattle.command_line.specs.Values.{is_set}

abbrev pub json_rule : Rule
json_rule = flag_rule (codes "json")

abbrev pub json_in : List Row → Bool
json_in rows = is_set (codes "json") rows
