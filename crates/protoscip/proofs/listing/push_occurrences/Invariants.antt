use Rattle.std.proofs.Common.{◌≡◌, ◌++◌, take}
use Rattle.std.specs.List.{flat_map}
use Rattle.std.specs.String.{string_bytes}
use Rattle.protoscip.specs.DumpText.{occurrence_line}
use Rattle.protoscip.proofs.listing.push_occurrences.Given as goal

-- the lines of the occurrences so far
abbrev pub invariant-loop-occurrence : goal.invariant-loop-occurrence
invariant-loop-occurrence l =
    string_bytes l.text ≡ string_bytes l.fn.text ++ flat_map occurrence_line (take l.occurrence-index l.occurrences)
