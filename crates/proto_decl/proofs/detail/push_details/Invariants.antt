use Rattle.std.proofs.Common.{List, ◌++◌, take}
use Rattle.proto_decl.specs.Detailed.{AreDetailsOf}
use Rattle.proto_decl.specs.declared.declaration.Outline.{Outline}
use Rattle.proto_decl.proofs.detail.push_details.Given as goal

-- behind the details that were there are those of the outlines so far
abbrev pub invariant-loop-outline : goal.invariant-loop-outline
invariant-loop-outline l = (before : List Outline) → AreDetailsOf l.lexed before l.fn.detailed.details.items
    → AreDetailsOf l.lexed (before ++ take l.outline-index l.outlines) l.detailed.details.items
