-- `--more`: whether more commands are known.
use Rattle.std.specs.Prelude.{Bool, List, codes}
use Rattle.clap.specs.Words.{Row, Rule}
use Rattle.command_line.specs.Arguments.{flag_rule}
use Rattle.command_line.specs.Values.{is_set}

abbrev pub more_rule : Rule
more_rule = flag_rule (codes "more")

abbrev pub more_in : List Row → Bool
more_in rows = is_set (codes "more") rows
