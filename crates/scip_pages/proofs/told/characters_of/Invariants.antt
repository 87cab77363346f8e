use Rattle.std.proofs.Common.{◌≡◌, ◌≤◌, take}
use Rattle.scip_pages.specs.Told.{characters}
use Rattle.scip_pages.proofs.told.characters_of.Given as goal

-- so many so far
abbrev pub invariant-loop-byte : goal.invariant-loop-byte
invariant-loop-byte l = record {
  few : l.count ≤ l.byte-index;
  counted : l.count ≡ characters (take l.byte-index l.bytes);
}
