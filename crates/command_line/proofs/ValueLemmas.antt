-- What the getters of `clap` read of the rows.
use Rattle.std.proofs.Common.{◌≡◌, ◌<◌, List, [], ◌∷◌, length, map, refl, Option, Some, None, arith}
use Rattle.std.specs.Prelude.{Box, unwrap_or}
use Rattle.std.specs.Box.{box_value}
use Rattle.std.specs.Borrow.{Bor}
use Rattle.std.specs.Option.{option_map}
use Rattle.clap.specs.Words.{Row, Text, subcommand_rows}
use Rattle.clap.specs.declared.parser.matches.SubCommand.{SubCommand}
use Rattle.clap.specs.declared.parser.matches.ArgMatches.TheViews.{out-SubCommand}
use Rattle.command_line.specs.Asks.{program_name}
use Rattle.command_line.specs.Options.Include.{folders_in}
use Rattle.command_line.specs.Values.{rows_in}

-- the program that matches name, by its name, and by its rows
pub matches_name : {Z : Type 0} (found : Option (Box SubCommand Z))
    → program_name (subcommand_rows found) ≡ option_map (λ b. (out-SubCommand (box_value b)).name.now) found
matches_name None = refl
matches_name (Some b) = refl

pub matches_rows : (program : Option (Text × List Row)) (rows : List Row) → option_map (λ p. p.1) program ≡ Some rows
    → rows_in program ≡ rows
matches_rows None rows e = absurd cc
matches_rows (Some p) rows e = cc

-- the text that is found, or the empty one
pub text_or_none : (given : Option (Bor Text)) (none : Bor Text) → none.now ≡ []
    → (unwrap_or given none).now ≡ unwrap_or (option_map (λ (s : Bor Text). s.now) given) []
text_or_none None none e = e
text_or_none (Some s) none e = refl

-- fewer than four texts are no folder
pub few_are_none : (texts : List (Bor Text)) → length texts < 4 → folders_in (map (λ (s : Bor Text). s.now) texts) ≡ []
few_are_none [] few = refl
few_are_none (a ∷ []) few = refl
few_are_none (a ∷ (b ∷ [])) few = refl
few_are_none (a ∷ (b ∷ (c ∷ []))) few = refl
few_are_none (a ∷ (b ∷ (c ∷ (d ∷ others)))) few = absurd (omega (arith, few))
