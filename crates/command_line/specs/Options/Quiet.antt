-- `--quiet`: whether it isn't shown how far a run is.
use Rattle.std.specs.Prelude.{Bool, List, codes}
use Rattle.clap.specs.Words.{Row, Rule}
use Rattle.command_line.specs.Arguments.{flag_rule}
use Rattle.command_line.specs.Values.{is_set}

abbrev pub quiet_rule : Rule
quiet_rule = flag_rule (codes "quiet")

abbrev pub quiet_in : List Row → Bool
quiet_in rows = is_set (codes "quiet") rows
