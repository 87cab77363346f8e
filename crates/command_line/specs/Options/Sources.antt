-- `--sources`: the file that lists the sources.
use Rattle.std.specs.Prelude.{◌≡◌, ⊤, Bool, false, ◌&&◌, List, [], Option, Some, None, codes, string_bytes}
use Rattle.std.specs.Option.{option_map_or}
use Rattle.std.specs.Str.{bytes_eq}
use Rattle.clap.specs.Words.{Row, Rule, Text, first_of}
use Rattle.command_line.specs.Arguments.{option_rule}
use Rattle.command_line.specs.declared.options.sources.SourceList.{SourceList}

abbrev pub sources_rule : Rule
sources_rule = option_rule (codes "sources")

abbrev pub sources_of : List Row → Option Text
sources_of rows = first_of (codes "sources") rows

abbrev pub file_of : SourceList → Text
file_of list = string_bytes list.file

-- the list isn't read yet
abbrev pub nothing_listed : Option SourceList → Type 0
nothing_listed None = ⊤
nothing_listed (Some list) = list.listed.items ≡ []

-- the list is standard input
abbrev pub is_input : Option Text → Bool
is_input file = option_map_or (λ text. bytes_eq text (codes "-")) file false

-- `shell` is named, which reads commands there
abbrev pub lists_commands : Option (Text × List Row) → Bool
lists_commands None = false
lists_commands (Some program) = bytes_eq program.0 (codes "shell") && is_input (sources_of program.1)
