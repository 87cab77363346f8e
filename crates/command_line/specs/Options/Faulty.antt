-- `--faulty`: what is done about a tree with faults.
use Rattle.std.specs.Prelude.{List, [], ◌∷◌, codes, if◌then◌else◌}
use Rattle.std.specs.Str.{bytes_eq}
use Rattle.clap.specs.Words.{Row, Rule, Text}
use Rattle.scip_build.specs.declared.faulty.Faulty.{Faulty}
use Rattle.scip_build.specs.declared.faulty.Faulty.TheVariants.{Refuse, Skip}
use Rattle.command_line.specs.Arguments.{WordList, option_rule, or_default, taking_words}
use Rattle.command_line.specs.Options.Real.{text_by_real}

abbrev pub faulty_words : List Text
faulty_words = codes "refuse" ∷ codes "skip" ∷ []

abbrev pub faulty_rule : WordList → Rule
faulty_rule words = or_default (codes "refuse") (taking_words words (option_rule (codes "faulty")))

-- what each word says; `clap` refuses every other text
abbrev pub faulty_in : Text → Faulty
faulty_in text = if bytes_eq text (codes "skip") then Skip else Refuse

abbrev pub faulty_of : List Row → Faulty
faulty_of rows = faulty_in (text_by_real (codes "faulty") (codes "skip") rows)
