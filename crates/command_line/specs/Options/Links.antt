-- `--links`: what is done about links below the folders.
use Rattle.std.specs.Prelude.{List, [], ◌∷◌, codes, if◌then◌else◌}
use Rattle.std.specs.Str.{bytes_eq}
use Rattle.clap.specs.Words.{Row, Rule, Text}
use Rattle.command_line.specs.declared.options.links.Links.{Links}
use Rattle.command_line.specs.declared.options.links.Links.TheVariants.{Ignore, Follow}
use Rattle.command_line.specs.Arguments.{WordList, option_rule, or_default, taking_words}
use Rattle.command_line.specs.Values.{text_of}

abbrev pub links_words : List Text
links_words = codes "ignore" ∷ codes "follow" ∷ []

abbrev pub links_rule : WordList → Rule
links_rule words = or_default (codes "ignore") (taking_words words (option_rule (codes "links")))

-- what each word says; `clap` refuses every other text
abbrev pub links_in : Text → Links
links_in text = if bytes_eq text (codes "follow") then Follow else Ignore

abbrev pub links_of : List Row → Links
links_of rows = links_in (text_of (codes "links") rows)
