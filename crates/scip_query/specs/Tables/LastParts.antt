-- What a place of a line parts it into.
use Rattle.std.specs.Prelude.{ℕ, ◌+◌, List, take, drop, Option}
use Rattle.std.specs.Option.{option_map}
use Rattle.scip_query.specs.CommandReading.{Parts}

-- what comes before the byte at a place, and after it
abbrev pub parts_at : List ℕ → Option ℕ → Option Parts
parts_at line place = option_map (λ (at : ℕ). record { word = take at line; behind = drop (at + 1) line }) place
