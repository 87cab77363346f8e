-- `--well-known`: whether the well-known files are included. `--real` says so, too.
use Rattle.std.specs.Prelude.{Bool, ◌||◌, List, codes}
use Rattle.clap.specs.Words.{Row, Rule}
use Rattle.command_line.specs.Arguments.{flag_rule}
use Rattle.command_line.specs.Options.Real.{is_real}
use Rattle.command_line.specs.Values.{is_set}

abbrev pub well_known_rule : Rule
well_known_rule = flag_rule (codes "well-known")

abbrev pub well_known_in : List Row → Bool
well_known_in rows = is_set (codes "well-known") rows || is_real rows
