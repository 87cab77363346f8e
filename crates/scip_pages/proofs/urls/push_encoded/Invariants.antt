use Rattle.std.proofs.Common.{◌≡◌, ◌++◌, length}
use Rattle.scip_pages.specs.Urls.{encoded}
use Rattle.scip_pages.proofs.urls.push_encoded.Given as goal

-- the bytes so far, and those that are left
abbrev pub invariant-loop-rest : goal.invariant-loop-rest
invariant-loop-rest l = l.url.items ++ encoded l.rest ≡ l.fn.url.items ++ encoded l.path

abbrev pub decreases-loop-rest : goal.decreases-loop-rest
decreases-loop-rest l = length l.rest
