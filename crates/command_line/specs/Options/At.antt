-- `--at`: the folder that the documents' paths are below.
use Rattle.std.specs.Prelude.{Bool, false, not, List, codes}
use Rattle.std.specs.Option.{option_map_or}
use Rattle.clap.specs.Words.{Row, Rule, Text, first_of}
use Rattle.source_tree.specs.Path.{is_good_folder}
use Rattle.command_line.specs.Arguments.{option_rule}
use Rattle.command_line.specs.Values.{text_of}

abbrev pub at_rule : Rule
at_rule = option_rule (codes "at")

-- no folder, if it isn't given
abbrev pub at_of : List Row → Text
at_of rows = text_of (codes "at") rows

-- it is given what isn't good for a folder
abbrev pub is_nowhere : List Row → Bool
is_nowhere rows = option_map_or (λ text. not (is_good_folder text)) (first_of (codes "at") rows) false
