-- `--duplicates`: whether several files may give one name.
use Rattle.std.specs.Prelude.{List, [], ◌∷◌, codes, if◌then◌else◌}
use Rattle.std.specs.Str.{bytes_eq}
use Rattle.clap.specs.Words.{Row, Rule, Text}
use Rattle.proto_visibility.specs.declared.clash.Duplicates.{Duplicates}
use Rattle.proto_visibility.specs.declared.clash.Duplicates.TheVariants.{Refuse, Keep}
use Rattle.command_line.specs.Arguments.{WordList, option_rule, or_default, taking_words}
use Rattle.command_line.specs.Options.Real.{text_by_real}

abbrev pub duplicates_words : List Text
duplicates_words = codes "refuse" ∷ codes "keep" ∷ []

abbrev pub duplicates_rule : WordList → Rule
duplicates_rule words = or_default (codes "refuse") (taking_words words (option_rule (codes "duplicates")))

-- what each word says; `clap` refuses every other text
abbrev pub duplicates_in : Text → Duplicates
duplicates_in text = if bytes_eq text (codes "keep") then Keep else Refuse

abbrev pub duplicates_of : List Row → Duplicates
duplicates_of rows = duplicates_in (text_by_real (codes "duplicates") (codes "keep") rows)
