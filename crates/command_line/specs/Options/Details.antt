-- `--details`: whether it is told what declarations are. `--real` says so, too.
use Rattle.std.specs.Prelude.{Bool, ◌||◌, List, codes}
use Rattle.clap.specs.Words.{Row, Rule}
use Rattle.command_line.specs.Arguments.{flag_rule}
use Rattle.command_line.specs.Options.Real.{is_real}
use Rattle.command_line.specs.Values.{is_set}

abbrev pub details_rule : Rule
details_rule = flag_rule (codes "details")

abbrev pub details_in : List Row → Bool
details_in rows = is_set (codes "details") rows || is_real rows
