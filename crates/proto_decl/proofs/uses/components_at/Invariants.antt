use Rattle.std.proofs.Common.{◌≡◌, take}
use Rattle.proto_decl.specs.Names.{components_at}
use Rattle.proto_decl.proofs.uses.components_at.Given as goal

-- the components so far
abbrev pub invariant-loop-span : goal.invariant-loop-span
invariant-loop-span l = l.components.items ≡ components_at l.text (take l.span-index l.spans)
