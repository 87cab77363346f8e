-- Those so far.
use Rattle.std.proofs.Common.{◌≡◌, take}
use Rattle.scip_records.proofs.from_parts.entries_of.Given as goal

abbrev pub invariant-numbers : goal.invariant-numbers
invariant-numbers g l = l.list.items ≡ take l.number (g.D.DocumentParts.document l.document).symbols
