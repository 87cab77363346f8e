-- What arguments and options are given, in the rows that the rules of `clap` give for the words.
use Rattle.std.specs.Prelude.{Bool, List, [], Option, codes, is_some, unwrap_or}
use Rattle.std.specs.Option.{option_map_or}
use Rattle.std.specs.Str.{bytes_eq}
use Rattle.clap.specs.Words.{Row, Text, all_of, first_of}

-- the rows of the program that the words name
abbrev pub rows_in : Option (Text × List Row) → List Row
rows_in program = option_map_or (λ p. p.1) program []

-- the first text, the argument's default if it has one and isn't given; else the empty text
abbrev pub text_of : Text → List Row → Text
text_of id rows = unwrap_or (first_of id rows) []

-- the texts of an option that may be given again, in the order of the words
abbrev pub texts_of : Text → List Row → List Text
texts_of id rows = unwrap_or (all_of id rows) []

-- an option without a default is given
abbrev pub is_given : Text → List Row → Bool
is_given id rows = is_some (first_of id rows)

-- an option without a value is given: `clap` then gives the text `true`
abbrev pub is_set : Text → List Row → Bool
is_set id rows = bytes_eq (text_of id rows) (codes "true")
