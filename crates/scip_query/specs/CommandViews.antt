-- The code's parts of lines and commands as those of the definitions.
use Rattle.std.specs.Prelude.{ℕ, List}
use Rattle.std.specs.Borrow.{Bor}
use Rattle.scip_query.specs.Commands
use Rattle.scip_query.specs.CommandReading.{Parts}
use Rattle.scip_query.specs.declared.command.Command.{Command}
use Rattle.scip_query.specs.declared.command.Command.TheVariants.{Ask, Symbols}

abbrev pub parts_view : Bor (List ℕ) × Bor (List ℕ) → Parts
parts_view p = record { word = p.0.now; behind = p.1.now }

abbrev pub text_of : Bor (List ℕ) → List ℕ
text_of text = text.now

abbrev pub command_view : Command → Commands.Command
command_view (Ask question position path) = Commands.Ask question position path.now
command_view (Symbols path) = Commands.Symbols path.now
