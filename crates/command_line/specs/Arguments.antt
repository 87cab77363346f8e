-- What arguments and options of each kind are, as the rules of the crate `clap` see them.
use Rattle.std.specs.Prelude.{List, [], ◌∷◌, Some, true, map}
use Rattle.std.specs.Borrow.{Bor}
use Rattle.clap.specs.Words.{Rule, Text, new_rule}
use Rattle.clap.specs.declared.builder.action.ArgAction.TheVariants.{Append, SetTrue}
use Rattle.clap.specs.declared.builder.value_parser.ValueParser.TheVariants as values

-- an argument that has to be given
abbrev pub required_rule : Text → Rule
required_rule name = record (new_rule name) { required = true }

-- an argument that may be given
abbrev pub optional_rule : Text → Rule
optional_rule name = new_rule name

-- an option `--name VALUE` of any text, at most once
abbrev pub option_rule : Text → Rule
option_rule name = record (new_rule name) { long = Some name; value_names = 1 }

-- an option without a value, at most once
abbrev pub flag_rule : Text → Rule
flag_rule name = record (new_rule name) { long = Some name; action = Some SetTrue }

-- the option may be given again
abbrev pub repeated : Rule → Rule
repeated rule = record rule { action = Some Append }

-- the option has this text if it isn't given
abbrev pub or_default : Text → Rule → Rule
or_default text rule = record rule { defaults = text ∷ [] }

-- listed words, somewhere in memory
abbrev pub WordList : Type 0
WordList = Bor (List (Bor Text))

-- the texts of such a list, wherever it is
abbrev pub texts_at : WordList → List Text
texts_at list = map (λ (s : Bor Text). s.now) list.now

-- the option takes only these words
abbrev pub taking_words : WordList → Rule → Rule
taking_words words rule = record rule { parser = Some (values.Names words) }
