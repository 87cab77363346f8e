-- `--also`: further indexes, which are taken as one with the first.
use Rattle.std.specs.Prelude.{List, ◌++◌, codes}
use Rattle.clap.specs.Words.{Row, Rule, Text}
use Rattle.command_line.specs.Arguments.{option_rule, repeated}
use Rattle.command_line.specs.Values.{texts_of}

abbrev pub also_rule : Rule
also_rule = repeated (option_rule (codes "also"))

abbrev pub also_of : List Row → List Text
also_of rows = texts_of (codes "also") rows

-- the path of an index, and those of further ones
abbrev pub indexes_of : List Row → List Text
indexes_of rows = texts_of (codes "INDEX") rows ++ also_of rows
