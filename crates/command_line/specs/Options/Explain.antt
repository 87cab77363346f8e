-- `--explain` and `--no-explain`: whether a fault is explained.
use Rattle.std.specs.Prelude.{Bool, ◌&&◌, ◌||◌, not, List, codes}
use Rattle.clap.specs.Words.{Row, Rule}
use Rattle.command_line.specs.Arguments.{flag_rule}
use Rattle.command_line.specs.Values.{is_set}

abbrev pub explain_rule : Rule
explain_rule = flag_rule (codes "explain")

abbrev pub unexplained_rule : Rule
unexplained_rule = flag_rule (codes "no-explain")

-- if that is asked for; and where faults are said on a terminal, unless it is refused
abbrev pub explains_in : (on_terminal : Bool) → List Row → Bool
explains_in on_terminal rows =
    is_set (codes "explain") rows || (on_terminal && not (is_set (codes "no-explain") rows))
