use Rattle.std.proofs.Common.{◌≡◌, ◌++◌, take}
use Rattle.scip_pages.specs.Urls.{ups}
use Rattle.scip_pages.proofs.urls.push_ups.Given as goal

-- the bytes so far
abbrev pub invariant-loop-byte : goal.invariant-loop-byte
invariant-loop-byte l = l.url.items ≡ l.fn.url.items ++ ups (take l.byte-index l.from)
