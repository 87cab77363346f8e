-- The command of a line where more are known, as a function: that which the grammar gives the line, if any (a law of
-- the crate).
use Rattle.std.specs.Prelude.{ℕ, ◌-◌, ◌==◌, cond, List, [], ◌∷◌, codes, Option, None, Some}
use Rattle.std.specs.Option.{option_map}
use Rattle.std.specs.Str.{bytes_eq}
use Rattle.scip_query.specs.declared.command.Question.TheVariants.{Definitions}
use Rattle.scip_query.specs.Commands.{Command, Ask}
use Rattle.scip_query.specs.CommandReading.{Parts, with_first, parts_of, number_of, path_of, command_of, ◌>>=◌}
use Rattle.scip_query.specs.MoreCommands.{MoreCommand, Known, Signature, Outline, Find, Help}

-- what comes before the last colon, and after it
abbrev pub parts_before : ℕ → List ℕ → Option Parts → Option Parts
parts_before b line (Some parts) = Some (with_first b parts)
parts_before b line None = cond (b == 58) (Some (record { word = []; behind = line })) None

abbrev pub last_parts_of : List ℕ → Option Parts
last_parts_of [] = None
last_parts_of (b ∷ line) = parts_before b line (last_parts_of line)

-- a number that counts from 1, from 0
abbrev pub from_zero : ℕ → Option ℕ
from_zero n = cond (n == 0) None (Some (n - 1))

abbrev pub counted_of : List ℕ → Option ℕ
counted_of word = number_of word >>= from_zero

-- `L C PATH`
unfoldable pub signature_of : List ℕ → Option MoreCommand
signature_of line =
    parts_of line >>= λ (first : Parts).
    number_of first.word >>= λ n.
    parts_of first.behind >>= λ (second : Parts).
    number_of second.word >>= λ m.
    option_map (Signature (record { line = n; column = m })) (path_of second.behind)

-- `PATH:LINE:COL`
unfoldable pub place_of : List ℕ → Option MoreCommand
place_of line =
    last_parts_of line >>= λ (last : Parts).
    counted_of last.behind >>= λ m.
    last_parts_of last.word >>= λ (first : Parts).
    counted_of first.behind >>= λ n.
    option_map (λ path. Known (Ask Definitions (record { line = n; column = m }) path)) (path_of first.word)

-- of a word, and what is behind it
unfoldable pub worded_of : Parts → Option MoreCommand
worded_of parts =
    cond (bytes_eq parts.word (codes "sig")) (signature_of parts.behind)
    (cond (bytes_eq parts.word (codes "out")) (option_map Outline (path_of parts.behind))
    (cond (bytes_eq parts.word (codes "find")) (option_map Find (path_of parts.behind))
    (cond (bytes_eq parts.word (codes "pos")) (place_of parts.behind) None)))

-- one of the commands that are always known; or one of a word; or the word alone
abbrev pub known_or : List ℕ → Option Command → Option MoreCommand
known_or line (Some command) = Some (Known command)
known_or line None = cond (bytes_eq line (codes "help")) (Some Help) (parts_of line >>= worded_of)

unfoldable pub more_command_of : List ℕ → Option MoreCommand
more_command_of line = known_or line (command_of line)
