-- The texts so far.
use Rattle.std.proofs.Common.{◌≡◌, ◌++◌, take}
use Rattle.scip_records.proofs.from_parts.push_listed.Given as goal

abbrev pub invariant-texts : goal.invariant-texts
invariant-texts l = l.texts.items ≡ l.fn.texts.items ++ take l.text-index l.listed
