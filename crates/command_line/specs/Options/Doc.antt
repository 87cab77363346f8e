-- `--doc`: which comments document a declaration, if it is given.
use Rattle.std.specs.Prelude.{List, [], ◌∷◌, Option, codes, if◌then◌else◌}
use Rattle.std.specs.Option.{option_map}
use Rattle.std.specs.Str.{bytes_eq}
use Rattle.clap.specs.Words.{Row, Rule, Text}
use Rattle.index_hooks.specs.declared.choice.DocChoice.{DocChoice}
use Rattle.index_hooks.specs.declared.choice.DocChoice.TheVariants.{Leading, Trailing, Both, Nothing}
use Rattle.command_line.specs.Arguments.{WordList, option_rule, taking_words}
use Rattle.command_line.specs.Options.Real.{first_by_real}

abbrev pub doc_words : List Text
doc_words = codes "leading" ∷ codes "trailing" ∷ codes "both" ∷ codes "nothing" ∷ []

abbrev pub doc_rule : WordList → Rule
doc_rule words = taking_words words (option_rule (codes "doc"))

-- what each word says; `clap` refuses every other text
abbrev pub doc_in : Text → DocChoice
doc_in text = if bytes_eq text (codes "leading") then Leading
    else if bytes_eq text (codes "trailing") then Trailing
    else if bytes_eq text (codes "both") then Both else Nothing

abbrev pub doc_of : List Row → Option DocChoice
doc_of rows = option_map doc_in (first_by_real (codes "doc") (codes "both") rows)
