use Rattle.std.proofs.Common.{◌≡◌, map, take}
use Rattle.proto_visibility.specs.Tables.FileItems.{declared_item}
use Rattle.proto_visibility.proofs.items.declared_items.Given as goal

abbrev pub invariant-loop-declaration : goal.invariant-loop-declaration
invariant-loop-declaration l = l.items.items ≡ map (declared_item l.number) (take l.declaration-index l.declarations)
