-- What is asked in one line, each by a program of its own.
use Rattle.std.specs.Prelude.{◌≡◌, ◌≢◌, List, [], Option, Some, None, codes}
use Rattle.std.specs.Option.{option_map}
use Rattle.clap.specs.Words.{Row, Text}
use Rattle.command_line.specs.Values.{rows_in, text_of}
use Rattle.command_line.specs.declared.verb.Verb.{Verb}
use Rattle.command_line.specs.declared.verb.Verb.TheVariants.{Def, Ref, Hover, Outline, Find, Stats, Print, Lint}

-- the name of the program
abbrev pub name_of : Verb → Text
name_of Def = codes "def"
name_of Ref = codes "ref"
name_of Hover = codes "hover"
name_of Outline = codes "outline"
name_of Find = codes "find"
name_of Stats = codes "stats"
name_of Print = codes "print"
name_of Lint = codes "lint"

-- and of its argument: a place or a name, a path, a text; none where nothing is asked about
abbrev pub argument_of : Verb → Text
argument_of Def = codes "PLACE|NAME"
argument_of Ref = codes "PLACE|NAME"
argument_of Hover = codes "PLACE|NAME"
argument_of Outline = codes "PATH"
argument_of Find = codes "TEXT"
argument_of Stats = []
argument_of Print = codes "PATH"
argument_of Lint = []

-- what is asked about, by what the program is given: no text where nothing is
abbrev pub asked_of : Verb → List Row → Text
asked_of Stats rows = []
asked_of Lint rows = []
asked_of verb rows = text_of (argument_of verb) rows

-- what is asked in one line by the program that words name, and what it is given: nothing, if it asks nothing so
abbrev pub IsAsking : Option (Text × List Row) → Option (Verb × List Row) → Type 0
IsAsking program (Some asked) =
    (option_map (λ p. p.0) program ≡ Some (name_of asked.0)) × (rows_in program ≡ asked.1)
IsAsking program None = (verb : Verb) → option_map (λ p. p.0) program ≢ Some (name_of verb)

-- the same of those alone that tell of an index as a whole
abbrev pub IsSurveying : Option (Text × List Row) → Option (Verb × List Row) → Type 0
IsSurveying program (Some asked) =
    (option_map (λ p. p.0) program ≡ Some (name_of asked.0)) × (rows_in program ≡ asked.1)
IsSurveying program None =
    (option_map (λ p. p.0) program ≢ Some (name_of Stats))
    × (option_map (λ p. p.0) program ≢ Some (name_of Print))
    × (option_map (λ p. p.0) program ≢ Some (name_of Lint))
