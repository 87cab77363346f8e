use Rattle.std.proofs.Common.{◌≡◌, ◌∙◌, ◌-◌, length, take, drop, sym, ap, arith, length-drop}
use Rattle.std.proofs.lemmas.List.{length-take}
use Rattle.proto_lex.specs.declared.position.Encoding.TheVariants.{Utf16}
use Rattle.proto_lex.proofs.UnitLemmas.{units_on, byte_units}
use Rattle.proto_lex.proofs.text.Text.units_between.Goals as goal

pub overflow_cast-result : goal.overflow_cast-result
overflow_cast-result c = omega (arith, c.self.invariant.0.short, ap length c.self.view_is, c.requires.within)

pub returns-in-Utf8 : goal.returns-in-Utf8
returns-in-Utf8 c =
    let text = c.args.self.now in
    let start = c.args.start in
    let end = c.args.end in
    rw c.in-Utf8.is (omega (
      arith,
      byte_units (take (end - start) (drop start text)),
      length-take (end - start) (drop start text),
      length-drop start text,
      c.requires.order,
      c.requires.within,
    ))

pub overflow_sub-result-in-Utf16-2 : goal.overflow_sub-result-in-Utf16-2
overflow_sub-result-in-Utf16-2 c =
    omega (
      arith,
      units_on Utf16 c.args.self.now c.args.start c.args.end c.requires.order,
      c.units_to.ensures,
      c.units_to-in-Utf16-2.ensures,
    )

pub returns-in-Utf16-2 : goal.returns-in-Utf16-2
returns-in-Utf16-2 c =
    rw c.in-Utf16-2.is (omega (
      arith,
      units_on Utf16 c.args.self.now c.args.start c.args.end c.requires.order,
      c.units_to.ensures,
      c.units_to-in-Utf16-2.ensures,
    ))
