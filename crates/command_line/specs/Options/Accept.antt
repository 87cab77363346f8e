-- `--accept`: which sources are read.
use Rattle.std.specs.Prelude.{List, [], ◌∷◌, codes, if◌then◌else◌}
use Rattle.std.specs.Str.{bytes_eq}
use Rattle.clap.specs.Words.{Row, Rule, Text}
use Rattle.proto_parse.specs.dialect.CustomOptions.{CustomOptions}
use Rattle.proto_parse.specs.dialect.Dialect.{Dialect}
use Rattle.proto_parse.specs.dialect.Dialect.TheVariants.{All, Proto3}
use Rattle.command_line.specs.Arguments.{WordList, option_rule, or_default, taking_words}
use Rattle.command_line.specs.Options.Real.{text_by_real}
use Rattle.command_line.specs.Options.CustomOptions.{custom_options_of}

abbrev pub accept_words : List Text
accept_words = codes "proto3" ∷ codes "all" ∷ []

abbrev pub accept_rule : WordList → Rule
accept_rule words = or_default (codes "proto3") (taking_words words (option_rule (codes "accept")))

-- what each word says: what is said about custom options counts for proto3 alone; `clap` refuses every other text
abbrev pub dialect_in : Text → CustomOptions → Dialect
dialect_in text custom_options = if bytes_eq text (codes "all") then All else Proto3 custom_options

abbrev pub dialect_of : List Row → Dialect
dialect_of rows = dialect_in (text_by_real (codes "accept") (codes "all") rows) (custom_options_of rows)
