use Rattle.std.proofs.Common.{◌≡◌, ◌++◌, take}
use Rattle.std.specs.List.{flat_map}
use Rattle.scip_site.specs.Script.{quoted_byte}
use Rattle.scip_site.proofs.script.push_bytes.Given as goal

-- the bytes so far
abbrev pub invariant-loop-byte : goal.invariant-loop-byte
invariant-loop-byte l = l.script.items ≡ l.fn.script.items ++ flat_map quoted_byte (take l.byte-index l.text)
