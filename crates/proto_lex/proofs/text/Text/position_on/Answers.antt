use Rattle.std.proofs.Common.{◌≡◌, ◌∙◌, ap, get_or, length, arith}
use Rattle.std.proofs.lemmas.List.{get_or_default}
use Rattle.proto_lex.specs.Position.{line_starts}
use Rattle.proto_lex.proofs.PositionLineStartLemmas.{IsLineAt, line-fits, position_of-is}
use Rattle.proto_lex.proofs.text.Text.position_on.Goals as goal

pub overflow_cast-result : goal.overflow_cast-result
overflow_cast-result c =
    let h : IsLineAt c.args.self.now c.args.offset c.args.line =
    record { within = c.requires.within; parted = c.requires.parted } in
    omega (
      arith,
      line-fits c.args.self.now c.args.offset c.args.line h,
      c.self.invariant.0.short,
      ap length c.self.view_is,
      c.requires.boundary.0,
    )

pub returns : goal.returns
returns c =
    let text = c.args.self.now in
    let line = c.args.line in
    let h : IsLineAt text c.args.offset line =
    record { within = c.requires.within; parted = c.requires.parted } in
    let kept : c.self.inside.line_starts.items ≡ line_starts text =
    c.self.invariant.1 ∙ ap line_starts c.self.view_is in
    let start : c.index.result.now ≡ get_or (line_starts text) line 0 =
    c.index.ensures ∙ (ap (λ xs. get_or xs line c.index.result.now) kept
    ∙ get_or_default (line_starts text) line c.index.result.now 0 h.within) in
    let column = rw start at c.units_between.ensures in
    position_of-is c.args.encoding text c.args.offset line c.units_between.result h c.requires.boundary.0 column
