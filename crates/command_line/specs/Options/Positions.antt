-- `--positions`: the unit of columns.
use Rattle.std.specs.Prelude.{List, [], ◌∷◌, codes, if◌then◌else◌}
use Rattle.std.specs.Str.{bytes_eq}
use Rattle.clap.specs.Words.{Row, Rule, Text}
use Rattle.proto_lex.specs.declared.position.Encoding.{Encoding}
use Rattle.proto_lex.specs.declared.position.Encoding.TheVariants.{Utf8, Utf16}
use Rattle.command_line.specs.Arguments.{WordList, option_rule, or_default, taking_words}
use Rattle.command_line.specs.Values.{text_of}

abbrev pub positions_words : List Text
positions_words = codes "utf8" ∷ codes "utf16" ∷ []

abbrev pub positions_rule : WordList → Rule
positions_rule words = or_default (codes "utf8") (taking_words words (option_rule (codes "positions")))

-- what each word says; `clap` refuses every other text
abbrev pub encoding_in : Text → Encoding
encoding_in text = if bytes_eq text (codes "utf16") then Utf16 else Utf8

abbrev pub encoding_of : List Row → Encoding
encoding_of rows = encoding_in (text_of (codes "positions") rows)
