use Rattle.std.proofs.Common.{ℕ, List, ◌++◌, map, take}
use Rattle.proto_visibility.specs.Clashes.{Item}
use Rattle.proto_visibility.specs.Tables.FileItems.{declared_item}
use Rattle.proto_visibility.specs.Tables.ClashTables.{AreApart}
use Rattle.proto_visibility.proofs.clash.add_declarations.Given as goal

abbrev pub invariant-loop-declaration : goal.invariant-loop-declaration
invariant-loop-declaration l = (number : ℕ) (items : List Item) → AreApart items l.fn.numbers
    → AreApart (items ++ map (declared_item number) (take l.declaration-index l.declarations)) l.numbers
