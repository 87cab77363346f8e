use Rattle.std.proofs.Common.{◌≡◌, ◌+◌, ◌/◌, subst, sym, ap, length, take, arith}
use Rattle.std.specs.List.{sum_by}
use Rattle.std.proofs.Math.Nat.{div-mul-le_self}
use Rattle.proto_lex.specs.Position.{code_units}
use Rattle.proto_lex.specs.Units.{AreUnits}
use Rattle.proto_lex.specs.declared.position.Encoding.TheVariants.{Utf16}
use Rattle.proto_lex.proofs.PositionLemmas.{units_so_far}
use Rattle.proto_lex.proofs.UnitLemmas.{units_by_mark}
use Rattle.proto_lex.proofs.text.Text.units_to.Goals as goal

found : (c : goal.After-columns)
    → c.in-Some.before.now + c.columns.result ≡ sum_by (code_units Utf16) (take c.args.offset c.args.self.now)
found c =
    let text = c.args.self.now in
    let got = c.in-Some.ensures.lookup in
    let are : AreUnits text c.deref.result.now =
    subst (AreUnits text) (sym c.deref.ensures.value)
    (subst (λ its. AreUnits its c.self.inside.units.items) c.self.view_is c.self.invariant.2) in
    units_by_mark text c.deref.result.now c.args.offset (c.args.offset / 1024) c.in-Some.before.now c.columns.result are
    got.3.0 got.1 (div-mul-le_self c.args.offset 1024)
    (rw (c.as_bytes-bytes.ensures.value, c.self.view_is) at c.columns.ensures)

pub overflow_add-result : goal.overflow_add-result
overflow_add-result c =
    omega (
      arith,
      found c,
      units_so_far Utf16 c.args.self.now c.args.offset,
      c.requires,
      c.self.invariant.0.short,
      ap length c.self.view_is,
    )

pub returns-in-Some : goal.returns-in-Some
returns-in-Some c = found c
