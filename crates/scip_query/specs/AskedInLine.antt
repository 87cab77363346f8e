-- What is asked in one line, of a text that is a place or a name.
use Rattle.std.specs.Prelude.{ℕ, List, Option, None, Some}
use Rattle.std.specs.Option.{option_map}
use Rattle.scip_query.specs.declared.command.Question.{Question}
use Rattle.scip_query.specs.declared.command.Question.TheVariants.{Definitions, References, Documentation}
use Rattle.scip_query.specs.Commands.{Ask}
use Rattle.scip_query.specs.CommandReading.{path_of}
use Rattle.scip_query.specs.MoreCommands.{MoreCommand, Known, Entry, Named}
use Rattle.scip_query.specs.MoreCommandReading.{place_of}

-- a question about the place that `pos` asks about. (What documents a symbol is in its entry.)
abbrev pub asked_there : Question → MoreCommand → MoreCommand
asked_there Definitions command = command
asked_there References (Known (Ask other p path)) = Known (Ask References p path)
asked_there Documentation (Known (Ask other p path)) = Entry p path
asked_there question command = command

abbrev pub there_or : Question → Option MoreCommand → List ℕ → Option MoreCommand
there_or question (Some place) text = Some (asked_there question place)
there_or question None text = option_map (Named question) (path_of text)

-- a text that spells a place is one, and any other is a name; the empty text is neither
unfoldable pub asked_about : Question → List ℕ → Option MoreCommand
asked_about question text = there_or question (place_of text) text
