use Rattle.std.proofs.Common.{◌≡◌, ◌≤◌, take}
use Rattle.proto_decl.specs.Names.{hash64}
use Rattle.option_link.proofs.OuterLemmas.{HasNoDotIn}
use Rattle.option_link.proofs.outer.OuterScope.inner.Given as goal

abbrev pub invariant-loop-index : goal.invariant-loop-index
invariant-loop-index l =
    (l.hash64 ≡ hash64 (take l.index l.scope)) × (l.behind ≤ l.index) × HasNoDotIn l.scope l.behind l.index
