use Rattle.std.proofs.Common.{◌≡◌, ◌∙◌, ◌+◌, ◌*◌, ap, subst, sym, length, take, arith}
use Rattle.std.specs.List.{sum_by}
use Rattle.std.proofs.Math.Nat.{div-mul-le_self}
use Rattle.std.proofs.lemmas.List.{length_push}
use Rattle.proto_lex.specs.Position.{code_units}
use Rattle.proto_lex.specs.Units.{AreUnits}
use Rattle.proto_lex.specs.declared.position.Encoding.TheVariants.{Utf16}
use Rattle.proto_lex.proofs.PositionLemmas.{units_so_far}
use Rattle.proto_lex.proofs.UnitLemmas.{units_pushed, units_to_next}
use Rattle.proto_lex.proofs.position.units_before.Goals as goal

pub overflow_add-before : goal.overflow_add-before
overflow_add-before c =
    omega (
      arith,
      units_to_next c.args.text.now c.loop-mark.mark c.loop-mark.before c.columns-before.result
          c.loop-mark.invariant.before c.columns-before.ensures,
      units_so_far Utf16 c.args.text.now ((c.loop-mark.mark + 1) * 1024),
      div-mul-le_self (length c.args.text.now) 1024,
      c.requires,
      c.loop-mark-test.true,
    )

pub loop-mark-preserved : goal.loop-mark-preserved
loop-mark-preserved c =
    let added = c.in_ok-push-2.ensures.items in
    let units = c.loop-mark.units.items in
    let text = c.args.text.now in
    let next = units_to_next text c.loop-mark.mark c.loop-mark.before c.columns-before.result
    c.loop-mark.invariant.before c.columns-before.ensures in
    record {
      count = ap length added ∙ (length_push units _ ∙ ap (λ n. n + 1) c.loop-mark.invariant.count);
      kept = subst (AreUnits text) (sym added)
          (units_pushed text units _ c.loop-mark.invariant.kept
          (next ∙ ap (λ n. sum_by (code_units Utf16) (take (n * 1024) text)) (sym c.loop-mark.invariant.count)));
      before = next;
    }
