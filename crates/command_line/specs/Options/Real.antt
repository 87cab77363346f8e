-- `--real`: one word for a tree as it lies. It says what several options would, but for those that are given as well.
use Rattle.std.specs.Prelude.{Bool, true, false, not, ◌&&◌, List, Option, Some, None, codes, unwrap_or, if◌then◌else◌}
use Rattle.std.specs.Prelude.{[]}
use Rattle.std.specs.List.{find}
use Rattle.std.specs.Option.{option_and_then}
use Rattle.std.specs.Str.{bytes_eq}
use Rattle.clap.specs.Words.{Row, Rule, Text, first_of}
use Rattle.clap.specs.declared.parser.matches.ValueSource.{ValueSource}
use Rattle.clap.specs.declared.parser.matches.ValueSource.TheVariants.{DefaultValue, CommandLine}
use Rattle.command_line.specs.Arguments.{flag_rule}
use Rattle.command_line.specs.Values.{is_set}

abbrev pub real_rule : Rule
real_rule = flag_rule (codes "real")

abbrev pub is_real : List Row → Bool
is_real rows = is_set (codes "real") rows

-- the words of the command line, and no default
abbrev pub is_of_words : Option ValueSource → Bool
is_of_words (Some CommandLine) = true
is_of_words (Some DefaultValue) = false
is_of_words None = false

-- an option is given in the words
abbrev pub is_typed : Text → List Row → Bool
is_typed id rows = is_of_words (option_and_then (λ r. r.source) (find (λ r. bytes_eq r.id id) rows))

-- the text of an option: with `--real`, if it isn't given as well, this word
abbrev pub first_by_real : (id word : Text) → List Row → Option Text
first_by_real id word rows = if is_real rows && not (is_typed id rows) then Some word else first_of id rows

-- the same; the empty text, if there is none
abbrev pub text_by_real : (id word : Text) → List Row → Text
text_by_real id word rows = unwrap_or (first_by_real id word rows) []
