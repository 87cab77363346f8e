-- `--options`: whether names in options are linked.
use Rattle.std.specs.Prelude.{Bool, true, false, ◌&&◌, not, List, [], ◌∷◌, Option, Some, None, codes}
use Rattle.std.specs.Str.{bytes_eq}
use Rattle.clap.specs.Words.{Row, Rule, Text}
use Rattle.proto_parse.specs.dialect.Dialect.{Dialect}
use Rattle.proto_parse.specs.dialect.Dialect.TheVariants.{All, Proto3}
use Rattle.command_line.specs.Arguments.{WordList, option_rule, or_default, taking_words}
use Rattle.command_line.specs.Values.{text_of}
use Rattle.command_line.specs.Options.Accept.{dialect_of}
use Rattle.command_line.specs.Options.Real.{text_by_real}

abbrev pub options_words : List Text
options_words = codes "skip" ∷ codes "link" ∷ []

abbrev pub options_rule : WordList → Rule
options_rule words = or_default (codes "skip") (taking_words words (option_rule (codes "options")))

-- what each word says; `clap` refuses every other text
abbrev pub is_link : Text → Bool
is_link text = bytes_eq text (codes "link")

-- proto3 sources alone are read
abbrev pub reads_proto3 : Dialect → Bool
reads_proto3 All = false
reads_proto3 (Proto3 custom) = true

-- They aren't linked if proto3 sources alone are read, in which options have no custom names.
abbrev pub links_options : List Row → Bool
links_options rows =
    is_link (text_by_real (codes "options") (codes "link") rows) && not (reads_proto3 (dialect_of rows))

-- linking is asked for, and proto3 sources alone are read: that is refused
abbrev pub links_in_proto3 : Option (Text × List Row) → Bool
links_in_proto3 None = false
links_in_proto3 (Some program) =
    is_link (text_of (codes "options") program.1) && reads_proto3 (dialect_of program.1)
