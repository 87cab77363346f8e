-- What a command line asks for. Which words name a program, and which ask for help or are refused,
-- is as the rules of the crate `clap` say of this program's command line.
use Rattle.std.specs.Prelude.{◌≡◌, ◌≢◌, Bool, true, false, ◌||◌, List, [], ◌∷◌, Option, Some, codes}
use Rattle.std.specs.Option.{option_map}
use Rattle.clap.specs.Words.{Kinds, IsAmong, Row, Text, fault_of, subcommand_of}
use Rattle.clap.specs.declared.error.kind.ErrorKind.{ErrorKind}
use Rattle.command_line.specs.Options.{AreListed, CarriesAsk, CarriesDump, CarriesIndex, CarriesJoin, CarriesPages}
use Rattle.command_line.specs.Options.{CarriesQuery, CarriesShell, CarriesSnapshot}
use Rattle.command_line.specs.Options.At.{is_nowhere}
use Rattle.command_line.specs.Options.OptionsLinked.{links_in_proto3}
use Rattle.command_line.specs.Options.Report.{lacks_report}
use Rattle.command_line.specs.Options.Sources.{lists_commands}
use Rattle.command_line.specs.Program.{command_line}
use Rattle.command_line.specs.Requests.{IsRefused, Prints}
use Rattle.command_line.specs.Values.{rows_in}
use Rattle.command_line.specs.Verbs.{name_of}
use Rattle.command_line.specs.declared.verb.Verb.{Verb}
use Rattle.command_line.specs.declared.options.WordLists.{WordLists}
use Rattle.command_line.specs.declared.request.Request.{Request}
use Rattle.command_line.specs.declared.request.Request.TheVariants as request

-- the name of the program that the words name
abbrev pub program_name : Option (Text × List Row) → Option Text
program_name program = option_map (λ p. p.0) program

-- the program, with what it is given: `index`, `shell`, `query`, `snapshot`, `pages`, `join`, one that asks in one line,
-- and else `dump`, the only other one
abbrev pub Names : (on_terminal : Bool) → Option (Text × List Row) → Request → Type 0
Names on_terminal program (request.Index given) = (program_name program ≡ Some (codes "index"))
    × CarriesIndex on_terminal (rows_in program) given
Names on_terminal program (request.Shell given) = (program_name program ≡ Some (codes "shell"))
    × CarriesShell on_terminal (rows_in program) given
Names on_terminal program (request.Query options) = (program_name program ≡ Some (codes "query"))
    × CarriesQuery on_terminal (rows_in program) options
Names on_terminal program (request.Snapshot options) = (program_name program ≡ Some (codes "snapshot"))
    × CarriesSnapshot on_terminal (rows_in program) options
Names on_terminal program (request.Pages options) = (program_name program ≡ Some (codes "pages"))
    × CarriesPages on_terminal (rows_in program) options
Names on_terminal program (request.Join options) = (program_name program ≡ Some (codes "join"))
    × CarriesJoin on_terminal (rows_in program) options
Names on_terminal program (request.Ask options) = (program_name program ≡ Some (name_of options.verb))
    × CarriesAsk on_terminal (rows_in program) options
Names on_terminal program (request.Dump options) = (program_name program ≢ Some (codes "index"))
    × (program_name program ≢ Some (codes "shell"))
    × (program_name program ≢ Some (codes "query"))
    × (program_name program ≢ Some (codes "snapshot"))
    × (program_name program ≢ Some (codes "pages"))
    × (program_name program ≢ Some (codes "join"))
    × ((verb : Verb) → program_name program ≢ Some (name_of verb))
    × CarriesDump on_terminal (rows_in program) options
Names on_terminal program (request.Print text) = ⊥
Names on_terminal program (request.Refuse text) = ⊥

-- what the rules of `clap` let pass, and is refused: a form for a report, and no file; a folder for the documents that
-- is none; a list that `shell` would read where its commands are; names in options linked where proto3 sources alone are
-- read
abbrev pub is_unfit : Option (Text × List Row) → Bool
is_unfit program = lacks_report (rows_in program)
    || (is_nowhere (rows_in program) || (lists_commands program || links_in_proto3 program))

-- the program that the words name, unless what they give it is refused
abbrev pub AsksFor : (on_terminal is_unfit : Bool) → Option (Text × List Row) → Request → Type 0
AsksFor on_terminal true program r = IsRefused r
AsksFor on_terminal false program r = Names on_terminal program r

-- no fault in the words: the program that they name; else one of the answers that the rules allow
abbrev pub AsksBy : (on_terminal : Bool) → Kinds → Option (Text × List Row) → Request → Type 0
AsksBy on_terminal [] program r = AsksFor on_terminal (is_unfit program) program r
AsksBy on_terminal (k ∷ ks) program r = (answer : ErrorKind) × IsAmong answer (k ∷ ks) × Prints answer r

-- what the words ask for, of which the first is the program's name; the lists of the words that some options take are
-- somewhere in memory
abbrev pub Asks : (on_terminal : Bool) → List Text → Request → Type 0
Asks on_terminal words r = (lists : WordLists) × AreListed lists
    × AsksBy on_terminal (fault_of (command_line lists) words) (subcommand_of (command_line lists) words) r
