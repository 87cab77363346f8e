use Rattle.std.proofs.Common.{◌≡◌, ◌+◌, ◌*◌, length, take}
use Rattle.std.specs.List.{sum_by}
use Rattle.proto_lex.specs.Position.{code_units}
use Rattle.proto_lex.specs.Units.{AreUnits}
use Rattle.proto_lex.specs.declared.position.Encoding.TheVariants.{Utf16}
use Rattle.proto_lex.proofs.position.units_before.Given as goal

-- those before the marks so far are kept, and those before the next mark are counted
abbrev pub invariant-loop-mark : goal.invariant-loop-mark
invariant-loop-mark l = record {
  count : length l.units.items ≡ l.mark + 1;
  kept : AreUnits l.text l.units.items;
  before : l.before ≡ sum_by (code_units Utf16) (take (l.mark * 1024) l.text);
}
