use Rattle.std.proofs.Common.{take}
use Rattle.proto_decl.specs.Declares.{outlines_in}
use Rattle.proto_decl.specs.Detailed.{AreDetailsOf}
use Rattle.proto_decl.proofs.detail.details_at.Given as goal

-- those of what the items so far declare
abbrev pub invariant-loop-item : goal.invariant-loop-item
invariant-loop-item l = AreDetailsOf l.lexed (outlines_in l.text l.surrounding (take l.item-index l.items))
    l.detailed.details.items
