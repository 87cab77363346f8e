-- `--sync`: whether the disk has OUT before the run ends.
use Rattle.std.specs.Prelude.{Bool, List, codes}
use Rattle.clap.specs.Words.{Row, Rule}
use Rattle.command_line.specs.Arguments.{flag_rule}
use Rattle.command_line.specs.Values.{is_set}

abbrev pub sync_rule : Rule
sync_rule = flag_rule (codes "sync")

abbrev pub sync_in : List Row → Bool
sync_in rows = is_set (codes "sync") rows
