-- `--custom-options`: what is done with custom options.
use Rattle.std.specs.Prelude.{List, [], ◌∷◌, codes, if◌then◌else◌}
use Rattle.std.specs.Str.{bytes_eq}
use Rattle.clap.specs.Words.{Row, Rule, Text}
use Rattle.proto_parse.specs.dialect.CustomOptions.{CustomOptions}
use Rattle.proto_parse.specs.dialect.CustomOptions.TheVariants.{Refuse, Skip}
use Rattle.command_line.specs.Arguments.{WordList, option_rule, or_default, taking_words}
use Rattle.command_line.specs.Values.{text_of}

abbrev pub custom_options_words : List Text
custom_options_words = codes "refuse" ∷ codes "skip" ∷ []

abbrev pub custom_options_rule : WordList → Rule
custom_options_rule words = or_default (codes "refuse") (taking_words words (option_rule (codes "custom-options")))

-- what each word says; `clap` refuses every other text
abbrev pub custom_options_in : Text → CustomOptions
custom_options_in text = if bytes_eq text (codes "skip") then Skip else Refuse

abbrev pub custom_options_of : List Row → CustomOptions
custom_options_of rows = custom_options_in (text_of (codes "custom-options") rows)
